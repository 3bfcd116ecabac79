use Rattle.std.proofs.Common.{◌≡◌, length}
use Rattle.swreq_minimal.proofs.evidence.all_marked.Given as goal

abbrev pub invariant-loop : goal.invariant-loop
invariant-loop l = length l.marks.items ≡ l.counter
