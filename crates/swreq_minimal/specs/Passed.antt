-- The lists that minimising may complete.
use Rattle.std.specs.Prelude.{◌≡◌, ◌⊎◌, ℕ, List, [], ◌∷◌, ◌++◌, take, drop}
use Rattle.swreq_machine.specs.swreq_param.declared.ids.ParamId.{ParamId}
use Rattle.swreq_machine.specs.swreq_derive.Derivation.{Derivable, TermFacts, TermRequirement}
use Rattle.swreq_machine.specs.swreq_derive.Derivation.Source.{Written}
use Rattle.swreq_machine.specs.swreq_derive.Derivation.TermStatement.{Requires}
use Rattle.swreq_candidates.specs.swreq_canonical.Generators.{Takes}
use Rattle.swreq_candidates.specs.swreq_canonical.Minimised.{Leaves}
use Rattle.swreq_candidates.specs.Candidates.{IsCandidateList}
use Rattle.swreq_machine.specs.swreq_correspondence.Symbols.{Symbols}

-- for a candidate, those that were taken before it
pub record IsTakenBefore (f : TermFacts) (params : List ParamId) (candidates list : List TermRequirement) : Type 0 where
  pub before : List TermRequirement
  pub candidate : TermRequirement
  pub after : List TermRequirement
  pub split : candidates ≡ before ++ candidate ∷ after
  pub taken : Takes f params [] before list

-- for a generator, from the last to the first, what is then left without it
pub record IsLeftWithout (f : TermFacts) (params : List ParamId) (generators list : List TermRequirement) : Type 0 where
  pub front : List TermRequirement
  pub generator : TermRequirement
  pub behind : List TermRequirement
  pub left : List TermRequirement
  pub split : generators ≡ front ++ generator ∷ behind
  pub leaves : Leaves f params (front ++ generator ∷ []) behind left
  pub list_is : list ≡ front ++ left

-- It is left of all when one has gone through those from the place on: those before the place, and what is left of the others.
abbrev pub IsLeftFrom : TermFacts → List ParamId → ℕ → List TermRequirement → List TermRequirement → Type 0
IsLeftFrom f params place all now =
    (out : List TermRequirement) × (now ≡ take place all ++ out) × Leaves f params (take place all) (drop place all) out

-- The last of the list is not derivable from those before it.
abbrev pub IsLastNeeded : TermFacts → List ParamId → List TermRequirement → Type 0
IsLastNeeded f params list =
    (front : List TermRequirement) (r : TermRequirement) → list ≡ front ++ r ∷ [] → Derivable f (Written params front) (Requires r) → ⊥

-- one of these, for the candidates and the generators among them
abbrev pub IsPassed : TermFacts → List ParamId → List TermRequirement → List TermRequirement → Type 0
IsPassed f params candidates list =
    IsTakenBefore f params candidates list
    ⊎ ((generators : List TermRequirement) × Takes f params [] candidates generators × IsLeftWithout f params generators list)

-- one of these, for the candidates of a list
abbrev pub IsPassedOf : Symbols → TermFacts → List ParamId → List TermRequirement → List TermRequirement → Type 0
IsPassedOf m f params list passed =
    (candidates : List TermRequirement) × IsCandidateList m f (Written params list) candidates × IsPassed f params candidates passed

-- What is left of candidates: of those that one takes going through them in order, those that are left when one then drops from the last to
-- the first.
pub record AreMinimisedCandidates (f : TermFacts) (params : List ParamId) (candidates left : List TermRequirement) : Type 0 where
  pub generators : List TermRequirement
  pub takes : Takes f params [] candidates generators
  pub leaves : Leaves f params [] generators left
