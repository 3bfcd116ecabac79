use Rattle.std.proofs.Common.{take, true}
use Rattle.swreq_check.specs.Contents.{backing_of}
use Rattle.swreq_check.specs.Lines.{AreLinesIn}
use Rattle.swreq_check.specs.QueryLines.{IsLineOf}
use Rattle.swreq_valid.specs.swreq_symbols.Texts.{world_of}
use Rattle.swreq_reply.proofs.printing.all_answers.Given as goal

abbrev pub invariant-loop-k : goal.invariant-loop-k
invariant-loop-k l =
    AreLinesIn (IsLineOf (world_of l.m.text) true (backing_of l.m.content)) (take l.k (world_of l.m.text).queries) l.out.items
