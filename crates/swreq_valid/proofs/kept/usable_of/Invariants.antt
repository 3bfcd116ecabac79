use Rattle.std.proofs.Common.{take}
use Rattle.swreq_rounds.specs.swreq_derive.Facts.{requirement_of}
use Rattle.swreq_valid.specs.Flags.{Tells}
use Rattle.swreq_valid.specs.Keeping.{IsUsableBy}
use Rattle.swreq_symbols.specs.Texts.{world_of}
use Rattle.swreq_valid.proofs.kept.usable_of.Given as goal

abbrev pub invariant-loop-k : goal.invariant-loop-k
invariant-loop-k l =
    Tells (λ r. IsUsableBy (world_of l.text) l.rules l.protocol (requirement_of l.text.table.now r)) (take l.k l.list) l.flags.items
