use Rattle.std.proofs.Common.{take}
use Rattle.swreq_query.specs.Systems.{IsSystemText}
use Rattle.swreq_check.specs.Lines.{AreLinesIn}
use Rattle.swreq_valid.specs.swreq_symbols.Texts.{world_of}
use Rattle.swreq_reply.proofs.printing.all_systems.Given as goal

abbrev pub invariant-loop-k : goal.invariant-loop-k
invariant-loop-k l = AreLinesIn (IsSystemText (world_of l.m.text)) (take l.k (world_of l.m.text).signatures) l.out.items
