use Rattle.std.proofs.Common.{◌≡◌, ◌++◌, drop}
use Rattle.swreq_valid.specs.Plans.{in_protocols}
use Rattle.swreq_valid.proofs.basic.requirements.Given as goal

abbrev pub invariant-loop-k : goal.invariant-loop-k
invariant-loop-k l =
    l.v.items ++ in_protocols l.world (drop l.k l.world.lexicon.written_order) ≡ in_protocols l.world l.world.lexicon.written_order
