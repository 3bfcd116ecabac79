use Rattle.swreq_text.proofs.Grown.{on_err, next_part, next_piece, followed_at}
use Rattle.swreq_text.proofs.joined.put_followed.Goals as goal

pub returns-in_err-put_after-clause-err : goal.returns-in_err-put_after-clause-err
returns-in_err-put_after-clause-err g c =
    let next = followed_at (g.P.Print.text c.args.printer.now) c.args.separator.now
    c.args.items.now c.loop-item.item-index c.item-item.result c.loop-item-test.true c.item-item.is in
    on_err c.from_residual.result
    (next_part _ _ _ _ _ _ _ next c.loop-item.invariant.0 c.loop-item.invariant.1 c.in_err-put_after.ensures.err)

pub loop-item-preserved : goal.loop-item-preserved
loop-item-preserved g c =
    let next = followed_at (g.P.Print.text c.args.printer.now) c.args.separator.now
    c.args.items.now c.loop-item.item-index c.item-item.result c.loop-item-test.true c.item-item.is in
    next_piece _ _ _ _ _ _ _ next c.loop-item.invariant.0 c.loop-item.invariant.1 c.in_ok-put_after.ensures.ok
