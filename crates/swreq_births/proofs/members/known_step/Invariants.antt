use Rattle.std.proofs.Common.{◌≡◌}
use Rattle.swreq_births.proofs.members.known_step.Given as goal

abbrev pub invariant-loop-k : goal.invariant-loop-k
invariant-loop-k l = l.derivation ≡ l.initial.derivation
