use Rattle.std.proofs.Common.{◌≡◌, ◌≤◌, ◌*◌}
use Rattle.swreq_closure.specs.Bits.{count_below, has}
use Rattle.swreq_closure.proofs.bits.count_words.Given as goal

abbrev pub invariant-loop-k : goal.invariant-loop-k
invariant-loop-k l = record {
  few : l.sum ≤ 64 * l.k;
  is : l.sum ≡ count_below (has l.words) (64 * l.k);
}
