use Rattle.std.proofs.Common.{◌≡◌, ◌-◌, ◌≤◌, ℕ, length, get_or}
use Rattle.swreq_closure.proofs.bits.used.Given as goal

abbrev pub invariant-loop-gone : goal.invariant-loop-gone
invariant-loop-gone l = (j : ℕ) → length l.words - l.gone ≤ j → get_or l.words j 0 ≡ 0
