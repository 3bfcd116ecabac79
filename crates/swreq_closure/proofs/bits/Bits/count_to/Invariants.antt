use Rattle.std.proofs.Common.{◌≡◌, ◌≤◌}
use Rattle.swreq_closure.specs.Bits.{count_below, has}
use Rattle.swreq_closure.proofs.bits.Bits.count_to.Given as goal

abbrev pub invariant-loop-k : goal.invariant-loop-k
invariant-loop-k l = record {
  few : l.count ≤ l.k;
  is : l.count ≡ count_below (has l.self) l.k;
}
