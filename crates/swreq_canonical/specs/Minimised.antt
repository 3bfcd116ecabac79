-- The minimised list of a list.
use Rattle.std.specs.Prelude.{◌≡◌, List, [], ◌∷◌, ◌++◌}
use Rattle.swreq_derive.specs.swreq_param.declared.ids.ParamId.{ParamId}
use Rattle.swreq_derive.specs.Derivation.{TermRequirement, TermFacts, Derivable}
use Rattle.swreq_derive.specs.Derivation.TermStatement.{Requires}
use Rattle.swreq_derive.specs.Derivation.Source.{Written}
use Rattle.swreq_canonical.specs.Generators.{IsGeneratorList}

-- Going through requirements from the last to the first, one drops each that is derivable from the others that are then left.
-- `Leaves f params front rest out` says that `out` is left of `rest` where `front` stands before it and is still to come.
pub data Leaves (f : TermFacts) (params : List ParamId) : List TermRequirement → List TermRequirement → List TermRequirement → Type 0 where
  nothing : {front : List TermRequirement} → Leaves f params front [] []
  dropped : {front rest out : List TermRequirement} {r : TermRequirement}
      → Leaves f params (front ++ r ∷ []) rest out → Derivable f (Written params (front ++ out)) (Requires r)
      → Leaves f params front (r ∷ rest) out
  kept : {front rest out : List TermRequirement} {r : TermRequirement}
      → Leaves f params (front ++ r ∷ []) rest out → (Derivable f (Written params (front ++ out)) (Requires r) → ⊥)
      → Leaves f params front (r ∷ rest) (r ∷ out)

-- The minimised list is what is left of the generators when one goes through them from the last to the first and drops each that is
-- derivable from the others that are then left.
pub record IsMinimised (f : TermFacts) (params : List ParamId) (list minimised : List TermRequirement) : Type 0 where
  pub generators : List TermRequirement
  pub are_generators : IsGeneratorList f params list generators
  pub leaves : Leaves f params [] generators minimised

-- No member is derivable from the others.
abbrev pub IsIndependent : TermFacts → List ParamId → List TermRequirement → Type 0
IsIndependent f params list =
    (before after : List TermRequirement) (r : TermRequirement) → list ≡ before ++ r ∷ after
    → Derivable f (Written params (before ++ after)) (Requires r) → ⊥
