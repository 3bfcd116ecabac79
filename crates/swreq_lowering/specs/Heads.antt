-- The generic parameters that a requirement is over.
use Rattle.std.specs.Prelude.{◌≡◌}
use Rattle.swreq_param.specs.declared.ids.ParamId.{ParamId}
use Rattle.swreq_param.specs.Terms.{self_param, head}
use Rattle.swreq_lexicon.specs.swreq_derive.Derivation.{TermRequirement}
use Rattle.swreq_lexicon.specs.swreq_derive.Derivation.TermRequirement.{Conforms, IsAnyObject, Equals}

-- The type parameters of the requirement begin with generic parameters of which this holds.
abbrev pub IsOver : (ParamId → Type 0) → TermRequirement → Type 0
IsOver Is (Conforms t p) = Is (head t)
IsOver Is (IsAnyObject t) = Is (head t)
IsOver Is (Equals t u) = Is (head t) × Is (head u)

-- They begin with τ_0_0.
abbrev pub IsOverSelf : TermRequirement → Type 0
IsOverSelf = IsOver (λ g. g ≡ self_param)
