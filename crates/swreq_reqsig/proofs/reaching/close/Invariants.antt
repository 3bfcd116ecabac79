use Rattle.std.proofs.Common.{◌+◌, cond}
use Rattle.swreq_valid.specs.Flags.{unset}
use Rattle.swreq_reqsig.proofs.Passing.{AreFound}
use Rattle.swreq_reqsig.proofs.reaching.close.Given as goal

abbrev pub invariant-loop-grows : goal.invariant-loop-grows
invariant-loop-grows l = AreFound l.selection.setting.places.now l.selection.flags.now l.initial.marks.items l.grows l.marks.items

abbrev pub decreases-loop-grows : goal.decreases-loop-grows
decreases-loop-grows l = unset l.marks.items + cond l.grows 1 0
