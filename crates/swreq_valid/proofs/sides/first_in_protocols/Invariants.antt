use Rattle.std.proofs.Common.{drop}
use Rattle.swreq_symbols.specs.Meaning.{facts_of, symbols_of}
use Rattle.swreq_valid.specs.Sides.{IsShownSide, protocol_sides, sides_in}
use Rattle.swreq_valid.proofs.FirstSide.{SoFar}
use Rattle.swreq_symbols.specs.Texts.{world_of}
use Rattle.swreq_valid.proofs.sides.first_in_protocols.Given as goal

abbrev pub invariant-loop-k : goal.invariant-loop-k
invariant-loop-k l = SoFar (IsShownSide (symbols_of l.text.world.now.lexicon) (facts_of (world_of l.text)) l.rules)
    (protocol_sides (world_of l.text)) (sides_in (world_of l.text) (drop l.k l.text.world.now.lexicon.written_order))
