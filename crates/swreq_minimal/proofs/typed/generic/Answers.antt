use Rattle.swreq_minimal.proofs.Typing.{not_of_these}
use Rattle.swreq_minimal.proofs.typed.generic.Goals as goal

pub returns-then-not-has-clause-typed : goal.returns-then-not-has-clause-typed
returns-then-not-has-clause-typed c x rules =
    not_of_these x rules c.args.params c.args.g (λ h. let e = c.has.ensures.1 h in let f = c.if-not-has.true in cc)
