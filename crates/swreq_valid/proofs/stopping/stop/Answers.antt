use Rattle.std.proofs.Common.{subst, Ok}
use Rattle.swreq_complete.specs.Answers.{IsAnswer}
use Rattle.swreq_valid.proofs.Early.{no_end}
use Rattle.swreq_valid.proofs.stopping.stop.Goals as goal

pub unreachable-requires : goal.unreachable-requires
unreachable-requires g c =
    no_end c.args.limits c.args.equations.now c.requires.stops c.in-Ok.field-0
    (subst (λ b. IsAnswer c.args.limits b c.args.equations.now (Ok c.in-Ok.field-0)) c.empty.ensures c.in-Ok.ensures.answer)
