use Rattle.std.proofs.Common.{take}
use Rattle.swreq_query.specs.Signatures.{IsNamedLine}
use Rattle.swreq_check.specs.Lines.{AreLinesIn}
use Rattle.swreq_valid.specs.swreq_symbols.Texts.{world_of}
use Rattle.swreq_reply.proofs.printing.all_signatures.Given as goal

abbrev pub invariant-loop-k : goal.invariant-loop-k
invariant-loop-k l = AreLinesIn (IsNamedLine (world_of l.m.text)) (take l.k (world_of l.m.text).signatures) l.out.items
