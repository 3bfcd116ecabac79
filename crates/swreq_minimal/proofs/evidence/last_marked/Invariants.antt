use Rattle.std.proofs.Common.{◌≡◌, length}
use Rattle.swreq_minimal.proofs.Showing.{MarksLast}
use Rattle.swreq_minimal.proofs.evidence.last_marked.Given as goal

abbrev pub invariant-loop-k : goal.invariant-loop-k
invariant-loop-k l = record {
  count : length l.marks.items ≡ l.k;
  last : MarksLast l.fn.count l.marks.items;
}
