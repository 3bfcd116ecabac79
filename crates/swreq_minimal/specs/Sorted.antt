-- Where a requirement belongs among others, and the requirements of the first rules of a system.
use Rattle.std.specs.Prelude.{◌≡◌, ◌↔◌, ◌<◌, ℕ, List, ◌∷◌, ◌++◌, Some, length, slice_get, Contains}
use Rattle.swreq_machine.specs.swreq_param.Terms.{Term}
use Rattle.swreq_machine.specs.swreq_derive.declared.known.Params.{Params}
use Rattle.swreq_machine.specs.swreq_derive.declared.requirements.Requirement.{Requirement}
use Rattle.swreq_machine.specs.swreq_derive.Derivation.{Source, TermFacts, TermRequirement}
use Rattle.swreq_machine.specs.swreq_derive.Facts.{requirement_of}
use Rattle.swreq_machine.specs.swreq_rule.declared.rules.Rule.{Rule}
use Rattle.swreq_machine.specs.swreq_lexicon.Views.{LexiconView}
use Rattle.swreq_machine.specs.swreq_lowering.ByTable.{HasIdsOf}
use Rattle.swreq_candidates.specs.swreq_canonical.Canonical.{IsCanonical}
use Rattle.swreq_candidates.specs.swreq_canonical.CanonicalOrder.{IsStrictlySorted, RequirementBefore}
use Rattle.swreq_minimal.specs.Typed.{IsRequirementOfRule}

-- The ids of the requirements are of the table.
abbrev pub AreHere : List Term → List Requirement → Type 0
AreHere terms found = (r : Requirement) → Contains found r → HasIdsOf terms r

-- The place is that of the first requirement that comes after r, or the end, and none before it is r.
pub record BelongsAt (terms : List Term) (found : List Requirement) (r : Requirement) (place : ℕ) : Type 0 where
  pub before : List Requirement
  pub after : List Requirement
  pub split : found ≡ before ++ after
  pub place_is : length before ≡ place
  pub not_same : (q : Requirement) → Contains before q → requirement_of terms q ≡ requirement_of terms r → ⊥
  pub not_later : (q : Requirement) → Contains before q → RequirementBefore (requirement_of terms r) (requirement_of terms q) → ⊥
  pub next : (q : Requirement) (rest : List Requirement) → after ≡ q ∷ rest
      → RequirementBefore (requirement_of terms r) (requirement_of terms q)

-- It is the requirement of one of the first n rules of the system.
abbrev pub IsOfFirstRules : LexiconView → List Rule → Params → List Rule → ℕ → TermRequirement → Type 0
IsOfFirstRules x rules params system n q =
    (k : ℕ) × (rule : Rule) × (k < n) × (slice_get system k ≡ Some rule) × IsRequirementOfRule x rules params rule.left rule.right q

-- The requirements of the first n rules, and no others. They are strictly sorted where they are canonical.
pub record IsListOfFirstRules (x : LexiconView) (rules : List Rule) (params : Params) (system : List Rule) (n : ℕ)
    (found : List TermRequirement) : Type 0 where
  pub members : (q : TermRequirement) → Contains found q ↔ IsOfFirstRules x rules params system n q
  pub sorted : (f : TermFacts) (s : Source) → ((q : TermRequirement) → IsOfFirstRules x rules params system n q → IsCanonical f s q)
      → IsStrictlySorted found
