use Rattle.swreq_machine.proofs.swreq_symbols.OfText.{query_at}
use Rattle.swreq_machine.specs.swreq_lowering.ByTable.{no_query}
use Rattle.swreq_machine.proofs.swreq_symbols.OfTexts.{text_over}
use Rattle.swreq_evidence_tests.proofs.printed.put_each.Goals as goal

pub put_answer-requires-clause-query : goal.put_answer-requires-clause-query
put_answer-requires-clause-query c =
    query_at c.args.text.now.world.now c.args.text.now.table.now (text_over c.args.text.now) c.queries-queries.result.now c.loop-k.k
    no_query c.queries-queries.ensures c.loop-k-test.true
