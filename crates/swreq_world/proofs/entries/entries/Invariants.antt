use Rattle.std.proofs.Common.{map, take}
use Rattle.swreq_lowering.specs.Words.{words_by}
use Rattle.swreq_world.specs.Entries.{FillsEntries}
use Rattle.swreq_world.specs.Own.{own_signature}
use Rattle.swreq_world.proofs.entries.entries.Given as goal

abbrev pub invariant-loop-g : goal.invariant-loop-g
invariant-loop-g l =
    FillsEntries l.fn.table l.table (map (own_signature (words_by l.words) l.order) (take l.g-index l.g-items)) l.made.items
