use Rattle.std.proofs.Common.{◌≡◌, zero, suc, [], ◌∷◌, refl, ap, lit<, arith}
use Rattle.swreq_derive.specs.swreq_param.declared.ids.ParamId.{ParamId}
use Rattle.swreq_derive.specs.Derivation.{Derivable}
use Rattle.swreq_derive.specs.Derivation.Derives.{generic, conf, same, symm, same_conf}
use Rattle.swreq_derive.specs.Derivation.Source.{Written}
use Rattle.swreq_derive.specs.Derivation.TermRequirement.{Conforms, Equals}
use Rattle.swreq_derive.specs.Derivation.TermStatement.{Requires}
use Rattle.swreq_derive.specs.Worked.{declared, members, members_requirements, τ_0_0, τ_0_1, P, A, A_of_P}
use Rattle.swreq_derive.proofs.Guard.{sound}
use Rattle.swreq_derive.proofs.Lengths.{IsAlike, alike}
use Rattle.swreq_derive.proofs.Listed.{none_listed}
use Rattle.swreq_derive.proofs.swreq_lemmas.Members.{each_member}
use Rattle.swreq_derive.proofs.NoConformance.{IsBare, says}
use Rattle.swreq_canonical.specs.Minimised.Leaves.{dropped, kept, nothing}
use Rattle.swreq_canonical.specs.Worked.{two}
use Rattle.swreq_canonical.proofs.worked.later_one_is_dropped.Goals as goal

-- conformances alone derive no equality of T and U
no_equality : Derivable members (Written two (Conforms τ_0_0 P ∷ Conforms τ_0_1 P ∷ [])) (Requires (Equals τ_0_0 τ_0_1)) → ⊥
no_equality e =
    let s = Written two (Conforms τ_0_0 P ∷ Conforms τ_0_1 P ∷ []) in
    let k : IsAlike τ_0_0 τ_0_1 = alike members s τ_0_0 τ_0_1
    (none_listed (declared P A A_of_P ∷ []) two members_requirements (Conforms τ_0_0 P ∷ Conforms τ_0_1 P ∷ []) (tt, tt) (refl, (refl, tt)))
    (sound members s (Requires (Equals τ_0_0 τ_0_1)) e) in
    apart (ap (λ (g : ParamId). g.index) k.heads)
  where
    apart : zero ≡ suc zero → ⊥
    apart i = omega arith

-- [U : P] from [T : P] and [T == U]
later : Derivable members (Written two (Conforms τ_0_0 P ∷ Equals τ_0_0 τ_0_1 ∷ [])) (Requires (Conforms τ_0_1 P))
later =
    same_conf (conf (0, lit< tt, refl) (λ _. generic (0, lit< tt, refl)))
    (symm (same (1, lit< tt, refl) (λ _. generic (0, lit< tt, refl)) (λ _. generic (1, lit< tt, refl))))

no_conformance : Derivable members (Written two (Equals τ_0_0 τ_0_1 ∷ [])) (Requires (Conforms τ_0_0 P)) → ⊥
no_conformance e =
    let s = Written two (Equals τ_0_0 τ_0_1 ∷ []) in
    says (sound members s (Requires (Conforms τ_0_0 P)) e) (each_member IsBare (Equals τ_0_0 τ_0_1 ∷ []) ((refl, refl), tt))

pub returns : goal.returns
returns c = kept (dropped (kept nothing no_equality) later) no_conformance
