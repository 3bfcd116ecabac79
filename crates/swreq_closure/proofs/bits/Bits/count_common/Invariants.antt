use Rattle.std.proofs.Common.{◌≡◌, ◌≤◌, ◌*◌, ◌&&◌}
use Rattle.swreq_closure.specs.Bits.{count_below, has}
use Rattle.swreq_closure.proofs.bits.Bits.count_common.Given as goal

abbrev pub invariant-loop-k : goal.invariant-loop-k
invariant-loop-k l = record {
  few : l.count ≤ 64 * l.k;
  is : l.count ≡ count_below (λ j. has l.self-inside.words.items j && has l.other-inside.words.items j) (64 * l.k);
}
