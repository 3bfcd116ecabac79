use Rattle.std.proofs.Common.{◌≤◌, length, take}
use Rattle.swreq_derivation.specs.Marks.{AreMarked}
use Rattle.swreq_derivation.proofs.marking.mark.Given as goal

abbrev pub invariant-loop-k : goal.invariant-loop-k
invariant-loop-k l = record {
  within : l.below ≤ length l.marks.items;
  marked : AreMarked l.initial.marks.items l.marks.items (take l.k l.numbers) l.below;
}
