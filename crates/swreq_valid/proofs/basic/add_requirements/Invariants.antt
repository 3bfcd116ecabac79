use Rattle.std.proofs.Common.{◌≡◌, ◌++◌, drop, map}
use Rattle.swreq_valid.specs.Plans.{in_protocol}
use Rattle.swreq_valid.proofs.basic.add_requirements.Given as goal

abbrev pub invariant-loop-k : goal.invariant-loop-k
invariant-loop-k l = l.wanted.items ++ map (in_protocol l.protocol) (drop l.k l.list)
    ≡ l.initial.wanted.items ++ map (in_protocol l.protocol) l.list
