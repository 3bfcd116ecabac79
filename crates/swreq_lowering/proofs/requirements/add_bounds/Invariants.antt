use Rattle.std.proofs.Common.{take}
use Rattle.swreq_param.specs.Tables.{term_at}
use Rattle.swreq_lowering.specs.Adding.{Adds}
use Rattle.swreq_lowering.specs.Requirements.{in_bounds}
use Rattle.swreq_lowering.specs.Words.{words_by}
use Rattle.swreq_lowering.proofs.requirements.add_bounds.Given as goal

abbrev pub invariant-loop-e : goal.invariant-loop-e
invariant-loop-e l = Adds l.fn.table l.table l.fn.into.items l.into.items
    (in_bounds (words_by l.words) l.fn.context (term_at l.fn.table l.fn.subject.term) l.fn.subject.at (take l.e-index l.bounds))
