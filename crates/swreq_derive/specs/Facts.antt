-- What is known of a list of requirements and of the protocols of its text, over the ids of a table of type parameters.
use Rattle.std.specs.Prelude.{◌≡◌, ℕ, zero, suc, ◌<◌, List, [], ◌∷◌, ◌++◌, Contains, map}
use Rattle.std.specs.Coded.{le_prop}
use Rattle.swreq_param.specs.declared.ids.AssocId.{AssocId}
use Rattle.swreq_param.specs.declared.ids.NameId.{NameId}
use Rattle.swreq_param.specs.declared.ids.ParamId.{ParamId}
use Rattle.swreq_param.specs.declared.ids.ProtoId.{ProtoId}
use Rattle.swreq_param.specs.Terms.{Term}
use Rattle.swreq_param.specs.Tables.{IsOf, term_at}
use Rattle.swreq_derive.specs.declared.known.Params.{Params}
use Rattle.swreq_derive.specs.declared.requirements.Requirement.{Requirement}
use Rattle.swreq_derive.specs.declared.requirements.Requirement.TheVariants.{Conf, Layout, Same}
use Rattle.swreq_derive.specs.declared.requirements.Statement.{Statement}
use Rattle.swreq_derive.specs.declared.requirements.Statement.TheVariants.{Valid, Holds}
use Rattle.swreq_derive.specs.Derivation.{TermRequirement, TermStatement, AssociatedType, TermFacts, Source}
use Rattle.swreq_derive.specs.Derivation.TermRequirement.{Conforms, IsAnyObject, Equals}
use Rattle.swreq_derive.specs.Derivation.TermStatement.{IsValid, Requires}
use Rattle.swreq_derive.specs.Derivation.Source.{Written}

-- ---- what the ids of a table stand for

-- the requirement between type parameters
abbrev pub requirement_of : List Term → Requirement → TermRequirement
requirement_of terms (Conf t p) = Conforms (term_at terms t) p
requirement_of terms (Layout t) = IsAnyObject (term_at terms t)
requirement_of terms (Same t u) = Equals (term_at terms t) (term_at terms u)

-- the statement on type parameters
abbrev pub statement_of : List Term → Statement → TermStatement
statement_of terms (Valid t) = IsValid (term_at terms t)
statement_of terms (Holds r) = Requires (requirement_of terms r)

-- ---- generic parameters

-- τ_d_0 up to τ_d_i with i below n
abbrev pub params_of_depth : ℕ → ℕ → List ParamId
params_of_depth d zero = []
params_of_depth d (suc n) = params_of_depth d n ++ record { depth = d; index = n } ∷ []

-- the outer ones τ_0_i, then the inner ones τ_1_i
abbrev pub generic_params : Params → List ParamId
generic_params p = params_of_depth 0 p.outer ++ params_of_depth 1 p.inner

-- ---- what a list and the protocols of its text say

-- Protocols and names have ranks below `protocols` and `names`.
pub record IdFacts : Type 0 where
  pub protocols : ℕ
  pub names : ℕ
  pub associated_types : List AssociatedType
  pub params : Params
  pub written : List Requirement
  pub of_protocol : ProtoId → List Requirement

-- Each declared pair of a protocol and a name has one associated type, and no two pairs have the same.
pub record AreOneToOne (ds : List AssociatedType) : Type 0 where
  pub of_pair : (p : ProtoId) (a : NameId) (d e : AssocId) → Contains ds (record { proto = p; name = a; assoc = d })
      → Contains ds (record { proto = p; name = a; assoc = e }) → d ≡ e
  pub of_assoc : (b c : AssociatedType) → Contains ds b → Contains ds c → b.assoc ≡ c.assoc → b ≡ c

-- the same over type parameters
abbrev pub term_facts : List Term → IdFacts → TermFacts
term_facts terms m = record { associated_types = m.associated_types; of_protocol = λ p. map (requirement_of terms) (m.of_protocol p) }

-- the list, with its generic parameters
abbrev pub term_source : List Term → IdFacts → Source
term_source terms m = Written (generic_params m.params) (map (requirement_of terms) m.written)

-- ---- ids of the table and of the facts

abbrev pub IsRequirementOver : List Term → IdFacts → Requirement → Type 0
IsRequirementOver terms m (Conf t p) = IsOf terms t × (p.rank < m.protocols)
IsRequirementOver terms m (Layout t) = IsOf terms t
IsRequirementOver terms m (Same t u) = IsOf terms t × IsOf terms u

abbrev pub IsStatementOver : List Term → IdFacts → Statement → Type 0
IsStatementOver terms m (Valid t) = IsOf terms t
IsStatementOver terms m (Holds r) = IsRequirementOver terms m r

-- The ids in the list and in the protocols' lists are of the table and of the facts.
pub record AreFactsOf (terms : List Term) (m : IdFacts) : Type 0 where
  pub list : (r : Requirement) → Contains m.written r → IsRequirementOver terms m r
  pub protocols : (p : ProtoId) (r : Requirement) → p.rank < m.protocols → Contains (m.of_protocol p) r → IsRequirementOver terms m r

-- ---- each of these facts has one proof at most

pub IsRequirementOver-prop : (terms : List Term) (m : IdFacts) (r : Requirement) → IsProp (IsRequirementOver terms m r)
IsRequirementOver-prop terms m (Conf t p) = Prim.hlevel le_prop
IsRequirementOver-prop terms m (Layout t) = Prim.hlevel le_prop
IsRequirementOver-prop terms m (Same t u) = Prim.hlevel le_prop

pub IsStatementOver-prop : (terms : List Term) (m : IdFacts) (st : Statement) → IsProp (IsStatementOver terms m st)
IsStatementOver-prop terms m (Valid t) = Prim.hlevel le_prop
IsStatementOver-prop terms m (Holds r) = IsRequirementOver-prop terms m r

pub ruleset over = (IsRequirementOver-prop, IsStatementOver-prop, le_prop)
