use Rattle.std.proofs.Common.{arith, true}
use Rattle.swreq_check.specs.Contents.{backing_of}
use Rattle.swreq_check.specs.QueryLines.{IsLineOf}
use Rattle.swreq_valid.specs.swreq_symbols.Texts.{world_of}
use Rattle.swreq_reply.proofs.Printed.{queries_counted}
use Rattle.swreq_check.proofs.Lines.{lines_all, lines_next, lines_none}
use Rattle.swreq_reply.proofs.printing.all_answers.Goals as goal

pub loop-k-init : goal.loop-k-init
loop-k-init c = lines_none (IsLineOf (world_of c.args.m.now.text) true (backing_of c.args.m.now.content))
    (world_of c.args.m.now.text).queries _ c.new-out.ensures.items

pub loop-k-preserved : goal.loop-k-preserved
loop-k-preserved c =
    let m = c.args.m.now in
    lines_next (IsLineOf (world_of m.text) true (backing_of m.content)) (world_of m.text).queries c.loop-k.k _ _ _ _
    (omega (arith, queries_counted _ _ c.m.view_is _ c.queries-k-end.ensures, c.loop-k-test.true))
    c.loop-k.invariant c.answer_at.ensures c.in_ok-append_bytes.ensures.ok

pub returns : goal.returns
returns c =
    let m = c.args.m.now in
    lines_all (IsLineOf (world_of m.text) true (backing_of m.content)) (world_of m.text).queries c.loop-k.k _
    (omega (arith, queries_counted _ _ c.m.view_is _ c.queries-k-end.ensures, c.loop-k-test.false))
    c.loop-k.invariant
