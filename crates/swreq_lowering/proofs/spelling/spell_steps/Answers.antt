use Rattle.swreq_param.specs.Tables.{term_at}
use Rattle.swreq_lowering.specs.Types.{step_of}
use Rattle.swreq_lowering.specs.Words.{words_by}
use Rattle.swreq_lowering.proofs.Pieces.{step_next}
use Rattle.swreq_lowering.proofs.spelling.spell_steps.Goals as goal

pub loop-step-preserved : goal.loop-step-preserved
loop-step-preserved c =
    step_next (step_of (words_by c.args.words.now)) c.args.steps.now c.loop-step.step-index _ c.step_of.result c.args.table.now
    c.loop-step.table c.member.new.self
    (term_at c.args.table.now c.args.base) c.loop-step.id c.in_ok-id.id c.loop-step-test.true c.step_of.ensures
    c.loop-step.invariant c.in_ok-id.ensures.ok
