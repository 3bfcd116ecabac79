use Rattle.swreq_reqsig.specs.Outlines.{AreSaidIn}
use Rattle.swreq_reqsig.specs.Selections.{protocols_in}
use Rattle.swreq_reqsig.proofs.saying.stated.Given as goal

abbrev pub invariant-loop-at : goal.invariant-loop-at
invariant-loop-at l =
    AreSaidIn l.selection.setting.outlines.now l.selection.flags.now l.places l.at l.fn.name
    (protocols_in l.selection) l.marks.items
