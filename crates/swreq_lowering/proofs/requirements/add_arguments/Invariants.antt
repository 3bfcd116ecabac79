use Rattle.std.proofs.Common.{◌≤◌, ◌-◌, length, take}
use Rattle.swreq_param.specs.Tables.{term_at}
use Rattle.swreq_lowering.specs.Adding.{Adds}
use Rattle.swreq_lowering.specs.Requirements.{arguments}
use Rattle.swreq_lowering.specs.Words.{words_by}
use Rattle.swreq_lowering.proofs.requirements.add_arguments.Given as goal

abbrev pub invariant-loop-k : goal.invariant-loop-k
invariant-loop-k l = record {
  in_names : l.k ≤ length l.names;
  in_given : l.k ≤ length l.given;
  added : Adds l.fn.table l.table l.fn.into.items l.into.items
      (arguments (words_by l.words) l.context (term_at l.fn.table l.subject) l.fn.entity.span.start (take l.k l.names) (take l.k l.given));
}

abbrev pub decreases-loop-k : goal.decreases-loop-k
decreases-loop-k l = length l.names - l.k
