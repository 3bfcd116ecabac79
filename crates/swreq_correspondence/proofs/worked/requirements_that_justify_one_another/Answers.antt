use Rattle.std.proofs.Common.{◌≡◌, [], ◌∷◌, subst, inl, inr}
use Rattle.swreq_derive.specs.swreq_param.Terms.Term.{Member}
use Rattle.swreq_derive.specs.swreq_param.Terms.{Term}
use Rattle.swreq_derive.specs.swreq_param.declared.ids.Step.{Step}
use Rattle.swreq_derive.specs.swreq_param.declared.ids.Step.TheVariants.{Name}
use Rattle.swreq_derive.specs.WellFormed.{HasValidSides}
use Rattle.swreq_word.specs.declared.symbols.Symbol.TheVariants.{Param as ParamSymbol}
use Rattle.swreq_derive.specs.Derivation.{TermRequirement}
use Rattle.swreq_derive.specs.Derivation.TermRequirement.{Conforms, IsAnyObject, Equals}
use Rattle.swreq_derive.specs.Worked.{◌·◌, of_one, τ_0_0, Q, A, B, circular, circular_f}
use Rattle.swreq_word.proofs.swreq_lemmas.Members.{member_cases, only_member}
use Rattle.swreq_correspondence.specs.Symbols.{Word}
use Rattle.swreq_correspondence.specs.Equations.{UsableEquation, UsableIn}
use Rattle.swreq_correspondence.specs.Equations.Equation.{twice, member, of_protocol, of_source}
use Rattle.swreq_correspondence.specs.Worked.{circular_symbols}
use Rattle.swreq_correspondence.proofs.worked.requirements_that_justify_one_another.Goals as goal

-- the word begins with a generic parameter
BeginsWithParam : Word → Type 0
BeginsWithParam (ParamSymbol d i ∷ w) = Unit {0}
BeginsWithParam _ = ⊥

-- where no requirement of the list is usable, no equation begins so
no_equation : ((r : TermRequirement) → UsableIn circular (of_one circular_f) r → ⊥) → {u v : Word}
    → UsableEquation circular_symbols circular (of_one circular_f) u v → BeginsWithParam u → ⊥
unfolding BeginsWithParam
no_equation none (twice p h) begins = begins
no_equation none (member k h) begins = begins
no_equation none (of_protocol p (Conforms t q) h) begins = begins
no_equation none (of_protocol p (IsAnyObject t) h) begins = begins
no_equation none (of_protocol p (Equals t u) h) begins = begins
no_equation none (of_source r h) begins = none r h

no_member : (t : Term) (x : Step) → Member t x ≡ τ_0_0 → ⊥
no_member t x e = cc

module _ (c : goal.After-requirements_that_justify_one_another) where
  unusable : (r : TermRequirement) → UsableIn circular (of_one circular_f) r → ⊥
  unusable r (h, v) = elim (member_cases (Conforms (τ_0_0 · A) Q) r (Equals (τ_0_0 · A · B) τ_0_0 ∷ []) h) [
    | inl e ↦ no_member τ_0_0 (Name A)
        ((c.requirements_that_justify_one_another.ensures.valid (τ_0_0 · A)).0 (subst (HasValidSides circular (of_one circular_f)) e v))
    | inr k ↦
        let w : HasValidSides circular (of_one circular_f) (Equals (τ_0_0 · A · B) τ_0_0) =
        subst (HasValidSides circular (of_one circular_f)) (only_member (Equals (τ_0_0 · A · B) τ_0_0) r k) v in
        no_member (τ_0_0 · A) (Name B) ((c.requirements_that_justify_one_another.ensures.valid (τ_0_0 · A · B)).0 w.0)
  ]

pub returns : goal.returns
unfolding BeginsWithParam
returns c = record { none = λ u v e. no_equation (unusable c) e tt }
