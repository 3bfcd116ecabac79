use Rattle.swreq_reqsig.specs.Outlines.{IsSaidIn}
use Rattle.swreq_reqsig.proofs.saying.is_said_in.Given as goal

abbrev pub invariant-loop-at : goal.invariant-loop-at
invariant-loop-at l = IsSaidIn l.selection.setting.outlines.now l.selection.flags.now l.places l.at l.fn.kind l.fn.name l.marks → ⊥
