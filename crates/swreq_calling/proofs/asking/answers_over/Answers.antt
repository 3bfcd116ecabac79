use Rattle.std.proofs.Common.{subst, sym}
use Rattle.swreq_machine.proofs.swreq_symbols.{Growing.{text_stays, world_stays}, OfText.{query_at}}
use Rattle.swreq_machine.specs.swreq_lowering.ByTable.{no_query}
use Rattle.swreq_calling.specs.Ready.{AreProtocolsOf}
use Rattle.swreq_calling.proofs.asking.answers_over.Goals as goal

pub loop-k-init : goal.loop-k-init
loop-k-init c = let built = c.in_ok-built.ensures in
    record { text = c.requires.text; protocols = record { rounds = (c.args.limits, built.rounds); rules = built.rules } }

pub put_answer-requires-clause-query : goal.put_answer-requires-clause-query
put_answer-requires-clause-query c = query_at _ _ c.loop-k.invariant.text _ c.loop-k.k no_query c.queries-queries.ensures c.loop-k-test.true

pub loop-k-preserved : goal.loop-k-preserved
loop-k-preserved c = let ready = c.loop-k.invariant in let more = c.in_ok-put_answer.ensures in let w = c.args.world.now in record {
  text = text_stays _ _ more w ready.text;
  protocols = subst (λ v. AreProtocolsOf v c.in_ok-built.built) (sym (world_stays _ _ more w ready.text.table)) ready.protocols;
}
