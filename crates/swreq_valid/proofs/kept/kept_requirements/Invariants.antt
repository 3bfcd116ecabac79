use Rattle.std.proofs.Common.{◌≡◌, ◌++◌, drop}
use Rattle.swreq_valid.specs.Keeping.{kept_in}
use Rattle.swreq_valid.proofs.kept.kept_requirements.Given as goal

abbrev pub invariant-loop-k : goal.invariant-loop-k
invariant-loop-k l =
    l.v.items ++ kept_in l.world (drop l.k l.world.lexicon.written_order) (drop l.k l.keep.lists)
    ≡ kept_in l.world l.world.lexicon.written_order l.keep.lists
