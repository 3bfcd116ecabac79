use Rattle.std.proofs.Common.{◌≡◌, ◌++◌, drop, map}
use Rattle.swreq_valid.specs.Plans.{in_signature}
use Rattle.swreq_machine.proofs.machine.in_signature.Given as goal

abbrev pub invariant-loop-k : goal.invariant-loop-k
invariant-loop-k l = l.wanted.items ++ map (in_signature l.params) (drop l.k l.list) ≡ map (in_signature l.params) l.list
