use Rattle.std.proofs.Common.{◌≡◌, ◌+◌, ◌-◌, ◌≤◌, length}
use Rattle.std.specs.Io.KnownBytes.{Consumes}
use Rattle.swreq_text.proofs.whole.read_all.Given as goal

abbrev pub invariant-loop-buf : goal.invariant-loop-buf
invariant-loop-buf g l = record {
  most : l.most ≡ l.limit + 1;
  within : length l.bytes.items ≤ l.most;
  uncounted : g.S.Source.faults l.src ≡ g.S.Source.faults l.fn.src;
  so_far : Consumes (g.S.Source.left l.fn.src) (g.S.Source.left l.src) l.bytes.items;
}

abbrev pub decreases-loop-buf : goal.decreases-loop-buf
decreases-loop-buf g l = l.most - length l.bytes.items
