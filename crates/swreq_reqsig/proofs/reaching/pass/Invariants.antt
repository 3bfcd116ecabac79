use Rattle.std.proofs.Common.{◌≤◌, length}
use Rattle.swreq_reqsig.specs.Marks.{HasPassed}
use Rattle.swreq_reqsig.proofs.reaching.pass.Given as goal

abbrev pub invariant-loop-left : goal.invariant-loop-left
invariant-loop-left l = record {
  within : l.left ≤ length l.places;
  passed : HasPassed l.places l.selection.flags.now l.left l.grew l.initial.marks.items l.marks.items;
}

abbrev pub decreases-loop-left : goal.decreases-loop-left
decreases-loop-left l = l.left
