use Rattle.std.proofs.Common.{◌≡◌, ◌++◌, drop, map}
use Rattle.swreq_valid.specs.Flags.{chosen}
use Rattle.swreq_valid.specs.Plans.{in_protocol}
use Rattle.swreq_valid.proofs.kept.add_kept.Given as goal

abbrev pub invariant-loop-k : goal.invariant-loop-k
invariant-loop-k l =
    l.wanted.items ++ map (in_protocol l.protocol) (chosen (drop l.k l.list) (drop l.k l.flags))
    ≡ l.initial.wanted.items ++ map (in_protocol l.protocol) (chosen l.list l.flags)
