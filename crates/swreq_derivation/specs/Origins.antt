-- Written requirements, of a protocol or of the list, and the rules that give them.
use Rattle.std.specs.Prelude.{◌≡◌, ℕ, List, [], ◌∷◌, Option, Some, None}
use Rattle.swreq_derive.specs.swreq_param.{declared.ids.ProtoId.{ProtoId}, Tables.{IsOf, term_at}, Terms.{Term}}
use Rattle.swreq_derive.specs.declared.{lines.DerivRule.{DerivRule}, requirements.Requirement.{Requirement}}
use Rattle.swreq_derive.specs.Derivation.{for_self, TermRequirement, TermStatement, TermRequirement.{Conforms, Equals, IsAnyObject}}
use Rattle.swreq_derive.specs.{Derivation.TermStatement.{Requires}, Facts.{requirement_of}, Instances.{HasNumber}}
use Rattle.swreq_derivation.specs.{declared.requirements.Origin.{Origin}, UnderWay.{Assumptions, States}}
use Rattle.swreq_derivation.specs.Views.{DerivationView as Derivation}
use Rattle.swreq_derive.specs.declared.lines.DerivRule.TheVariants as rules

-- U with T for `Self` if it is of a requirement of a protocol, and otherwise U itself
abbrev pub placed : Option ProtoId → Term → Term → Term
placed (Some p) t u = for_self t u
placed None t u = u

-- the requirement with T for `Self` if it is one of a protocol, and otherwise the requirement itself
abbrev pub placed_in : Option ProtoId → Term → TermRequirement → TermRequirement
placed_in owner t (Conforms u q) = Conforms (placed owner t u) q
placed_in owner t (IsAnyObject u) = IsAnyObject (placed owner t u)
placed_in owner t (Equals u v) = Equals (placed owner t u) (placed owner t v)

-- the requirements of the protocol, or those of the list if there is no owner
abbrev pub written_by : Assumptions → Option ProtoId → List TermRequirement
written_by b (Some p) = b.facts.of_protocol p
written_by b None = b.written

-- what the rule takes: that T conforms to the owner, if there is one
abbrev pub taken_from : Option ProtoId → Term → List TermStatement
taken_from (Some p) t = Requires (Conforms t p) ∷ []
taken_from None t = []

-- the rule that gives the n-th requirement of the owner, or of the list
abbrev pub rule_for : Option ProtoId → ℕ → TermRequirement → DerivRule
rule_for (Some p) n (Conforms u q) = rules.AssocConf p n
rule_for (Some p) n (IsAnyObject u) = rules.AssocLayout p n
rule_for (Some p) n (Equals u v) = rules.AssocSame p n
rule_for None n (Conforms u q) = rules.Conf n
rule_for None n (IsAnyObject u) = rules.Layout n
rule_for None n (Equals u v) = rules.Same n

-- A line states that T conforms to the protocol, if there is one.
abbrev pub ConformsIfAny : Derivation → Term → Option ProtoId → Type 0
ConformsIfAny s t None = Unit {0}
ConformsIfAny s t (Some p) = States s (Requires (Conforms t p))

-- The type parameter that stands for `Self` is of the table. A line states that it conforms to the owner, if there is one.
pub record IsOrigin (s : Derivation) (o : Origin) : Type 0 where
  pub for_self : IsOf s.table o.for_self
  pub owner : ConformsIfAny s (term_at s.table o.for_self) o.owner

-- The requirement with the origin's number is written, and the requirement over ids is this one. If there is an owner, T stands for `Self`.
abbrev pub IsWrittenOf : Derivation → Origin → Requirement → Assumptions → Type 0
IsWrittenOf s o r b = (q : TermRequirement) × HasNumber o.number (written_by b o.owner) q
    × (requirement_of s.table r ≡ placed_in o.owner (term_at s.table o.for_self) q)
