use Rattle.std.proofs.Common.{◌≡◌, ◌++◌, drop}
use Rattle.swreq_valid.specs.Flags.{either_of}
use Rattle.swreq_valid.proofs.flags.either.Given as goal

abbrev pub invariant-loop-k : goal.invariant-loop-k
invariant-loop-k l = l.flags.items ++ either_of (drop l.k l.first) (drop l.k l.second) ≡ either_of l.first l.second
