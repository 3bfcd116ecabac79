use Rattle.std.proofs.Common.{◌≡◌, take}
use Rattle.swreq_machine.specs.swreq_param.Tables.{Extends, IsOf, term_at}
use Rattle.swreq_machine.specs.swreq_param.Terms.{with_steps}
use Rattle.swreq_subst.proofs.arguments.followed.Given as goal

abbrev pub invariant-loop-k : goal.invariant-loop-k
invariant-loop-k l = record {
  is_of : IsOf l.table l.at;
  stands : term_at l.table l.at ≡ with_steps (term_at l.initial.table l.initial.at) (take l.k l.steps);
  extends : Extends l.initial.table l.table;
}
