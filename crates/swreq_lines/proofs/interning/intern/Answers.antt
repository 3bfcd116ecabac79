use Rattle.swreq_print.proofs.swreq_param.Growing.{onward}
use Rattle.swreq_print.specs.swreq_param.Tables.{term_at}
use Rattle.swreq_print.specs.swreq_param.Terms.Term.{Generic}
use Rattle.swreq_lines.proofs.OneStep.{with_one}
use Rattle.swreq_lines.proofs.interning.intern.Goals as goal

pub loop-step-preserved : goal.loop-step-preserved
loop-step-preserved c = record {
  is_of = c.in_ok-id-2.ensures.ok.is_of;
  stands = with_one (Generic c.args.t.now.head) (term_at c.member.new.self c.in_ok-id-2.id)
      (term_at c.loop-step.table c.loop-step.id) c.args.t.now.steps
      c.items-step-items.result.now c.loop-step.step-index _ c.items-step-items.ensures c.loop-step-test.true c.loop-step.invariant.stands
      c.in_ok-id-2.ensures.ok.stands;
  extends = onward c.args.table.now c.loop-step.table c.member.new.self c.loop-step.invariant.extends c.in_ok-id-2.ensures.extends;
}
