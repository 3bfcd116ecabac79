use Rattle.swreq_machine.specs.swreq_symbols.Meaning.{symbols_of}
use Rattle.swreq_explain.specs.Rounds.{AreFirstSystems, origin_of}
use Rattle.swreq_explain.proofs.history.systems_of.Given as goal

abbrev pub invariant-loop-k : goal.invariant-loop-k
invariant-loop-k l =
    AreFirstSystems (symbols_of l.makings.text.world.now.lexicon) l.makings.text.table.now (origin_of l.makings) l.k l.systems.items
