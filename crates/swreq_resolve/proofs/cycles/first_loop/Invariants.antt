use Rattle.std.proofs.Common.{◌≡◌, ℕ, ◌<◌, false}
use Rattle.swreq_closure.specs.Chains.{leads}
use Rattle.swreq_resolve.proofs.cycles.first_loop.Given as goal

abbrev pub invariant-loop-i : goal.invariant-loop-i
invariant-loop-i l = (j : ℕ) → j < l.i → leads l.inherits j j ≡ false
