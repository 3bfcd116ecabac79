use Rattle.std.proofs.Common.{◌≡◌, ◌++◌, drop}
use Rattle.swreq_valid.specs.Plans.{bare}
use Rattle.swreq_machine.proofs.build.bare.Given as goal

abbrev pub invariant-loop-k : goal.invariant-loop-k
invariant-loop-k l = l.list.items ++ bare (drop l.k l.written) ≡ bare l.written
