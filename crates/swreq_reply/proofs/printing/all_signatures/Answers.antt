use Rattle.std.proofs.Common.{arith}
use Rattle.swreq_query.specs.Signatures.{IsNamedLine}
use Rattle.swreq_valid.specs.swreq_world.Worlds.{no_signature}
use Rattle.swreq_valid.specs.swreq_symbols.Texts.{world_of}
use Rattle.swreq_reply.proofs.Printed.{signatures_counted}
use Rattle.swreq_check.proofs.Lines.{lines_all, lines_next, lines_none}
use Rattle.swreq_reply.proofs.printing.all_signatures.Goals as goal

pub loop-k-init : goal.loop-k-init
loop-k-init c = lines_none (IsNamedLine (world_of c.args.m.now.text)) (world_of c.args.m.now.text).signatures _ c.new-out.ensures.items

pub loop-k-preserved : goal.loop-k-preserved
loop-k-preserved c =
    let (line, is, grown) = c.in_ok-put_named.ensures in
    lines_next (IsNamedLine (world_of c.args.m.now.text)) (world_of c.args.m.now.text).signatures c.loop-k.k no_signature line _ _
    (omega (arith, signatures_counted _ _ c.m.view_is _ c.functions-k-end.ensures, c.loop-k-test.true))
    c.loop-k.invariant is grown

pub returns : goal.returns
returns c =
    lines_all (IsNamedLine (world_of c.args.m.now.text)) (world_of c.args.m.now.text).signatures c.loop-k.k _
    (omega (arith, signatures_counted _ _ c.m.view_is _ c.functions-k-end.ensures, c.loop-k-test.false))
    c.loop-k.invariant
