use Rattle.std.proofs.Common.{refl, lit<, arith}
use Rattle.swreq_derive.specs.swreq_param.Terms.{self}
use Rattle.swreq_derive.specs.Derivation.{Derivable}
use Rattle.swreq_derive.specs.Derivation.TermRequirement.{Conforms}
use Rattle.swreq_derive.specs.Derivation.TermStatement.{Requires}
use Rattle.swreq_derive.specs.Derivation.Derives.{generic, conf, assoc_conf}
use Rattle.swreq_derive.specs.Worked.{of_one, τ_0_0}
use Rattle.swreq_correspondence.specs.Equations.Equation.{member}
use Rattle.swreq_correspondence.specs.Worked.{A_of_Base, Base, Derived, inherited, inherited_f}
use Rattle.swreq_correspondence.proofs.worked.inherited_member_name.Goals as goal

conforms : Derivable inherited (of_one inherited_f) (Requires (Conforms τ_0_0 Derived))
conforms = conf (0, lit< tt, refl) (λ _. generic (0, lit< tt, refl))

inherits : Derivable inherited (of_one inherited_f) (Requires (Conforms τ_0_0 Base))
inherits = assoc_conf {u = self} conforms (0, lit< tt, refl) (λ _. generic refl)

pub returns-clause-member : goal.returns-clause-member
returns-clause-member c = member 0 (lit< tt)

pub returns-clause-typed : goal.returns-clause-typed
returns-clause-typed c = (
  0,
  (lit< tt, conforms, (Base, A_of_Base, inherits, (0, lit< tt, refl))),
  record { proto = Base; declares = (0, lit< tt, refl); conforms = inherits; first = λ q e h k. omega arith },
  refl,
)
