use Rattle.std.proofs.Common.{◌≡◌, ℕ, None, get_or, length}
use Rattle.swreq_check.proofs.checking.no_pieces.Given as goal

abbrev pub invariant-loop : goal.invariant-loop
invariant-loop l = (length l.pieces.items ≡ l.counter) × ((k : ℕ) → get_or l.pieces.items k None ≡ None)
