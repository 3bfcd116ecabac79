use Rattle.std.proofs.Common.{refl, lit<}
use Rattle.swreq_derive.specs.swreq_param.Terms.{self}
use Rattle.swreq_derive.specs.Derivation.TermRequirement.{Equals}
use Rattle.swreq_derive.specs.Derivation.Derives.{generic, conf, assoc_name}
use Rattle.swreq_derive.specs.Worked.{◌·◌, τ_0_0, τ_0_1, P, B, B_of_P}
use Rattle.swreq_correspondence.specs.Equations.Equation.{of_protocol, of_source}
use Rattle.swreq_correspondence.proofs.worked.member_that_is_self.Goals as goal

pub returns-clause-of_protocol : goal.returns-clause-of_protocol
returns-clause-of_protocol c =
    of_protocol P (Equals (self · B) self)
    ((0, lit< tt, refl), (assoc_name {d = B_of_P} (conf refl (λ _. generic refl)) (0, lit< tt, refl), generic refl))

pub returns-clause-of_list : goal.returns-clause-of_list
returns-clause-of_list c =
    of_source (Equals (τ_0_0 · B) τ_0_1) (
      (1, lit< tt, refl),
      (
        assoc_name {p = P} {d = B_of_P} (conf (0, lit< tt, refl) (λ _. generic (0, lit< tt, refl))) (0, lit< tt, refl),
        generic (1, lit< tt, refl),
      ),
    )
