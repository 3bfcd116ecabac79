use Rattle.std.proofs.Common.{◌≡◌, take}
use Rattle.swreq_print.specs.swreq_param.Tables.{Extends, IsOf, term_at}
use Rattle.swreq_print.specs.swreq_param.Terms.{with_steps}
use Rattle.swreq_print.specs.swreq_param.Terms.Term.{Generic}
use Rattle.swreq_lines.proofs.interning.intern.Given as goal

abbrev pub invariant-loop-step : goal.invariant-loop-step
invariant-loop-step l = record {
  is_of : IsOf l.table l.id;
  stands : term_at l.table l.id ≡ with_steps (Generic l.t.head) (take l.step-index l.t.steps);
  extends : Extends l.fn.table l.table;
}
