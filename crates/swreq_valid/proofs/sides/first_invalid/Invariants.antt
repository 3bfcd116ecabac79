use Rattle.std.proofs.Common.{List, drop}
use Rattle.swreq_rounds.specs.swreq_derive.Derivation.{TermRequirement}
use Rattle.swreq_symbols.specs.Meaning.{facts_of, symbols_of}
use Rattle.swreq_world.specs.swreq_lowering.ByTable.{placed}
use Rattle.swreq_valid.specs.Plans.{within}
use Rattle.swreq_valid.specs.Sides.{IsShownSide, sides}
use Rattle.swreq_valid.proofs.FirstSide.{SoFar}
use Rattle.swreq_symbols.specs.Texts.{world_of}
use Rattle.swreq_valid.proofs.sides.first_invalid.Given as goal

abbrev pub invariant-loop-k : goal.invariant-loop-k
invariant-loop-k l =
    (rs : List TermRequirement) → SoFar (IsShownSide (symbols_of l.text.world.now.lexicon) (facts_of (world_of l.text)) l.rules)
    (sides (within rs l.fn.over) (placed l.text.table.now l.list)) (sides (within rs l.fn.over) (placed l.text.table.now (drop l.k l.list)))
