use Rattle.std.proofs.Common.{◌≡◌, length}
use Rattle.swreq_complete.specs.Reading.{AreRead}
use Rattle.swreq_complete.proofs.reading.next_redex.Given as goal

abbrev pub invariant-loop-at : goal.invariant-loop-at
invariant-loop-at l = record {
  read : AreRead l.rules l.word l.counts.items;
  as_many : l.at ≡ length l.counts.items;
}
