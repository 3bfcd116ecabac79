-- What the lines of a derivation state over type parameters, and how a derivation grows.
use Rattle.std.specs.Prelude.{◌≡◌, ◌⊎◌, ℕ, List, [], ◌∷◌, Some, map, slice_get}
use Rattle.swreq_derive.specs.swreq_param.declared.ids.{AssocId.{AssocId}, NameId.{NameId}, ParamId.{ParamId}, ProtoId.{ProtoId}}
use Rattle.swreq_derive.specs.swreq_param.declared.ids.{Step.{Step, TheVariants.{Bound as BoundStep, Name as NameStep}}, TermId.{TermId}}
use Rattle.swreq_derive.specs.{swreq_param.{Terms.{Term, Term.{Member}}, Tables.{IsOf, Extends, term_at}}, declared.lines.Line.{Line}}
use Rattle.swreq_derive.specs.declared.requirements.{Requirement.{Requirement, TheVariants.{Conf, Layout, Same}}, Statement.{Statement}}
use Rattle.swreq_derive.specs.declared.requirements.Statement.TheVariants.{Valid, Holds}
use Rattle.swreq_derive.specs.Derivation.{TermFacts, TermRequirement, TermStatement, TermRequirement.{Conforms, Equals}}
use Rattle.swreq_derive.specs.{Derivation.TermStatement.{Requires}, Facts.{requirement_of, statement_of}}
use Rattle.swreq_derive.specs.{Instances.{HasNumber, IsDerivation}, Lines.{line_of, stated_by}}
use Rattle.swreq_derivation.specs.declared.statements.Bound.{Bound, TheVariants.{AnyObject, Protocol}}
use Rattle.swreq_derivation.specs.Views.{DerivationView as Derivation}

-- What lines are derived from: the facts of a text, and a list of requirements with its generic parameters.
pub record Assumptions : Type 0 where
  pub facts : TermFacts
  pub params : List ParamId
  pub written : List TermRequirement

-- The ids in the statement are of the table.
abbrev pub AreIdsIn : List Term → Statement → Type 0
AreIdsIn terms (Valid t) = IsOf terms t
AreIdsIn terms (Holds (Conf t p)) = IsOf terms t
AreIdsIn terms (Holds (Layout t)) = IsOf terms t
AreIdsIn terms (Holds (Same t u)) = IsOf terms t × IsOf terms u

-- The ids in what these lines state are of the table.
abbrev pub AllIn : List Term → List Line → Type 0
AllIn terms ls = (k : ℕ) (l : Line) → slice_get ls k ≡ Some l → AreIdsIn terms l.statement

-- what the lines state, in order
abbrev pub statements_in : Derivation → List TermStatement
statements_in s = map (statement_of s.table) (stated_by s.lines)

-- A line states it.
abbrev pub States : Derivation → TermStatement → Type 0
States s st = (n : ℕ) × HasNumber n (statements_in s) st

-- A line states it, and its ids are of the table.
abbrev pub IsPremise : Derivation → Statement → Type 0
IsPremise s st = AreIdsIn s.table st × States s (statement_of s.table st)

-- Lines state these, and their ids are of the table.
abbrev pub ArePremises : Derivation → List Statement → Type 0
ArePremises s [] = Unit {0}
ArePremises s (st ∷ sts) = IsPremise s st × ArePremises s sts

-- The lines are a derivation from the assumptions.
abbrev pub IsDerivedFrom : Assumptions → Derivation → Type 0
IsDerivedFrom b s = IsDerivation b.facts b.params b.written (map (line_of s.table) s.lines)

-- The two type parameters are identical, or a line states that they are equal.
abbrev pub AreStatedEqual : Derivation → Term → Term → Type 0
AreStatedEqual s t u = (t ≡ u) ⊎ States s (Requires (Equals t u))

-- A line states that what the id stood for conforms to the protocol.
abbrev pub StatesConformance : Derivation → Derivation → TermId → ProtoId → Type 0
StatesConformance old s t p = States s (Requires (Conforms (term_at old.table t) p))

-- the requirement that the type parameter of the id conforms to the bound
abbrev pub bound_on : Bound → TermId → Requirement
bound_on (Protocol p) t = Conf t p
bound_on AnyObject t = Layout t

-- A line states that what the id stood for conforms to the bound.
abbrev pub StatesBound : Derivation → Derivation → TermId → Bound → Type 0
StatesBound old s t bound = States s (Requires (requirement_of old.table (bound_on bound t)))

-- What the two ids stood for is identical, or a line states that it is equal.
abbrev pub StatesEqual : Derivation → Derivation → TermId → TermId → Type 0
StatesEqual old s t u = AreStatedEqual s (term_at old.table t) (term_at old.table u)

-- The two ids are of the table, and their type parameters are identical, or a line states that they are equal.
abbrev pub AreEqualIds : Derivation → TermId → TermId → Type 0
AreEqualIds s t u = IsOf s.table t × IsOf s.table u × AreStatedEqual s (term_at s.table t) (term_at s.table u)

-- It is an id of the table, and stands for the member of T by the step.
abbrev pub IsIdOfMember : Derivation → TermId → Step → TermId → Type 0
IsIdOfMember s t x v = IsOf s.table v × (term_at s.table v ≡ Member (term_at s.table t) x)

-- They are ids of the table, and stand for the members of T and U by the step.
abbrev pub AreIdsOfMembers : Derivation → TermId → TermId → Step → TermId × TermId → Type 0
AreIdsOfMembers s t u x m = IsIdOfMember s t x m.0 × IsIdOfMember s u x m.1

-- The step names A, or is bound to the associated type.
abbrev pub IsStepTo : Step → NameId → AssocId → Type 0
IsStepTo (NameStep x) a d = x ≡ a
IsStepTo (BoundStep e) a d = e ≡ d

-- Lines and type parameters were added. What was stated is still stated, and each id stands for what it stood for.
pub record AddsLines (old new : Derivation) : Type 0 where
  pub extends : Extends old.table new.table
  pub stays : (st : TermStatement) → States old st → States new st

-- If the old lines are a derivation from the assumptions, so are the new ones.
abbrev pub StaysDerived : Assumptions → Derivation → Derivation → Type 0
StaysDerived b old new = IsDerivedFrom b old → IsDerivedFrom b new

-- Lines and type parameters were added. If the old lines are a derivation from assumptions for which this holds, so are the new ones.
pub record ContinuesFrom (Holding : Assumptions → Type 0) (old new : Derivation) : Type 0 where
  pub grows : AddsLines old new
  pub derives : (b : Assumptions) → Holding b → StaysDerived b old new

-- Lines and type parameters were added. Whatever the old lines are a derivation from, the new ones are too.
abbrev pub Continues : Derivation → Derivation → Type 0
Continues = ContinuesFrom (λ b. Unit {0})
