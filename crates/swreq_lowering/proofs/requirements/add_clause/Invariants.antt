use Rattle.std.proofs.Common.{take}
use Rattle.swreq_lowering.specs.Adding.{Adds}
use Rattle.swreq_lowering.specs.Walk.{in_clause}
use Rattle.swreq_lowering.specs.Words.{words_by}
use Rattle.swreq_lowering.proofs.requirements.add_clause.Given as goal

abbrev pub invariant-loop-r : goal.invariant-loop-r
invariant-loop-r l =
    Adds l.fn.table l.table l.fn.into.items l.into.items (in_clause (words_by l.words) l.fn.context (take l.r-index l.clause))
