use Rattle.swreq_resolve.specs.First.{least}
use Rattle.swreq_resolve.specs.Refusals.{by_place, of_function}
use Rattle.swreq_resolve.proofs.Walks.{by_place_more, by_place_all}
use Rattle.swreq_resolve.proofs.signatures.check_functions.Goals as goal

pub loop-i-preserved : goal.loop-i-preserved
loop-i-preserved c =
    by_place_more (of_function c.args.text.now c.args.declared.now) c.args.functions.now c.loop-i.i c.index-functions-i.result c.loop-i.best
    c.check_function-best.result (least c.args.best (by_place (of_function c.args.text.now c.args.declared.now) 0 c.args.functions.now))
    c.loop-i-test.true c.index-functions-i.is
    c.check_function-best.ensures c.loop-i.invariant

pub returns : goal.returns
returns c = by_place_all (of_function c.args.text.now c.args.declared.now) c.args.functions.now c.loop-i.i c.loop-i.best
    (least c.args.best (by_place (of_function c.args.text.now c.args.declared.now) 0 c.args.functions.now)) c.loop-i-test.false
    c.loop-i.invariant
