use Rattle.std.proofs.Common.{map, take}
use Rattle.swreq_param.specs.Terms.{with_steps}
use Rattle.swreq_param.specs.Tables.{term_at}
use Rattle.swreq_lowering.specs.Adding.{Spells}
use Rattle.swreq_lowering.specs.Types.{step_of}
use Rattle.swreq_lowering.specs.Words.{words_by}
use Rattle.swreq_lowering.proofs.spelling.spell_steps.Given as goal

abbrev pub invariant-loop-step : goal.invariant-loop-step
invariant-loop-step l = Spells l.fn.table l.table
    (with_steps (term_at l.fn.table l.fn.base) (map (step_of (words_by l.words)) (take l.step-index l.steps))) l.id
