use Rattle.swreq_print.specs.swreq_derive.Derivation.{BookDerivable, Derivable}
use Rattle.swreq_machine.proofs.swreq_derive.Guard.{from_function}
use Rattle.swreq_query.proofs.Along.{along}
use Rattle.swreq_query.proofs.laws.guard_changes_no_answer.Goals as goal

pub returns : goal.returns
returns c = λ f lists s q a formed member. (
  along (BookDerivable f s) (Derivable f s) (λ st. (from_function f lists s st formed member).0)
      (λ st. (from_function f lists s st formed member).1) q a,
  along (Derivable f s) (BookDerivable f s) (λ st. (from_function f lists s st formed member).1)
      (λ st. (from_function f lists s st formed member).0) q a,
)
