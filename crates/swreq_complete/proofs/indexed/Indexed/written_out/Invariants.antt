use Rattle.std.proofs.Common.{◌≡◌, take}
use Rattle.swreq_complete.proofs.indexed.Indexed.written_out.Given as goal

abbrev pub invariant-loop-k : goal.invariant-loop-k
invariant-loop-k l = l.copies.items ≡ take l.k l.self
