use Rattle.std.proofs.Common.{refl, lit<, arith}
use Rattle.swreq_derive.specs.Worked.{Early, Late, Next_of_Early}
use Rattle.swreq_derive.proofs.WorkedDerivations.{redeclared_to_early, redeclared_to_late}
use Rattle.swreq_correspondence.proofs.worked.name_declared_again.Goals as goal

pub returns-clause-typed : goal.returns-clause-typed
returns-clause-typed c = (
  0,
  (lit< tt, redeclared_to_early, (Early, Next_of_Early, redeclared_to_early, (0, lit< tt, refl))),
  record { proto = Late; declares = (1, lit< tt, refl); conforms = redeclared_to_late redeclared_to_early; first = λ q e h k. omega arith },
  refl,
)
