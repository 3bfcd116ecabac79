use Rattle.std.proofs.Common.{◌≡◌, ◌++◌, drop}
use Rattle.swreq_explain.specs.Numbering.{numbered_in}
use Rattle.swreq_explain.proofs.numbered.all_numbered.Given as goal

abbrev pub invariant-loop-k : goal.invariant-loop-k
invariant-loop-k l =
    l.numbered.items ++ numbered_in l.text.world.now (drop l.k l.text.world.now.lexicon.written_order) ≡ numbered_in l.text.world.now
    l.text.world.now.lexicon.written_order
