use Rattle.swreq_machine.proofs.swreq_symbols.OfText.{query_at}
use Rattle.swreq_machine.specs.swreq_lowering.ByTable.{no_query}
use Rattle.swreq_machine.proofs.swreq_symbols.OfTexts.{text_over}
use Rattle.swreq_evidence_tests.proofs.paths.put_all.Goals as goal

pub put_asked-requires-clause-query : goal.put_asked-requires-clause-query
put_asked-requires-clause-query c =
    let text = c.checked.inside.text in
    rw (← c.checked.view_is)
    (query_at text.world.now text.table.now (text_over text) c.queries-queries.result.now c.loop-k.k no_query c.queries-queries.ensures
    c.loop-k-test.true)
