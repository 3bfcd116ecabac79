use Rattle.swreq_resolve.specs.First.{least}
use Rattle.swreq_resolve.specs.Refusals.{by_place, of_nested}
use Rattle.swreq_resolve.proofs.Walks.{by_place_more, by_place_all}
use Rattle.swreq_resolve.proofs.signatures.check_all_nested.Goals as goal

pub loop-j-preserved : goal.loop-j-preserved
loop-j-preserved c =
    by_place_more (of_nested c.args.text.now c.args.declared.now c.args.outer) c.args.functions.now
    c.loop-j.j c.index-functions-j.result c.loop-j.best c.check_nested-best.result (least c.args.best
    (by_place (of_nested c.args.text.now c.args.declared.now c.args.outer) 0 c.args.functions.now)) c.loop-j-test.true
    c.index-functions-j.is
    c.check_nested-best.ensures c.loop-j.invariant

pub returns : goal.returns
returns c = by_place_all (of_nested c.args.text.now c.args.declared.now c.args.outer) c.args.functions.now c.loop-j.j c.loop-j.best
    (least c.args.best (by_place (of_nested c.args.text.now c.args.declared.now c.args.outer) 0 c.args.functions.now))
    c.loop-j-test.false c.loop-j.invariant
