use Rattle.std.proofs.Common.{◌≤◌, length}
use Rattle.swreq_derivation.specs.Marks.{AreNeeded}
use Rattle.swreq_derivation.proofs.marking.marks_of.Given as goal

abbrev pub invariant-loop-left : goal.invariant-loop-left
invariant-loop-left l = record {
  within : l.left ≤ length l.lines;
  needed : AreNeeded l.lines l.marks.items l.left;
}

abbrev pub decreases-loop-left : goal.decreases-loop-left
decreases-loop-left l = l.left
