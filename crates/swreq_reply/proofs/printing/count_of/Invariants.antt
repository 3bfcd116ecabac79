use Rattle.std.proofs.Common.{◌≤◌, take, true}
use Rattle.swreq_query.specs.Asked.{answer_of}
use Rattle.swreq_check.specs.Lines.{Counted}
use Rattle.swreq_check.specs.QueryLines.{HasAnswer}
use Rattle.swreq_valid.specs.swreq_symbols.Texts.{world_of}
use Rattle.swreq_reply.proofs.printing.count_of.Given as goal

abbrev pub invariant-loop-k : goal.invariant-loop-k
invariant-loop-k l =
    Counted (HasAnswer (world_of l.m.text) true (answer_of l.verdict)) (take l.k (world_of l.m.text).queries) l.count × (l.count ≤ l.k)
