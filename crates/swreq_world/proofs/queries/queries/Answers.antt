use Rattle.std.proofs.Common.{ap, ◌∙◌}
use Rattle.swreq_lowering.specs.ByTable.{query_by, HasQueryIdsOf}
use Rattle.swreq_lowering.specs.Queries.{query_of}
use Rattle.swreq_lowering.specs.Words.{words_by}
use Rattle.swreq_world.proofs.Filled.{fills_more, query_of_stay, query_stays}
use Rattle.swreq_world.proofs.queries.queries.Goals as goal

pub loop-q-preserved : goal.loop-q-preserved
loop-q-preserved c =
    let meaning = query_of (words_by c.args.words.now) c.args.order.now in
    fills_more HasQueryIdsOf query_by query_of_stay query_stays meaning c.items-q-items.result.now c.loop-q.q-index c.q-item.result
    c.args.table.now c.loop-q.table c.query_of.new.table c.loop-q.made.items c.push.new.self.items c.in_ok-query.query
    c.loop-q-test.true c.loop-q.invariant
    c.query_of.ensures.extends c.in_ok-query.ensures.of (c.in_ok-query.ensures.asks ∙ ap meaning c.q-item.is) c.in_ok-push.ensures.items
