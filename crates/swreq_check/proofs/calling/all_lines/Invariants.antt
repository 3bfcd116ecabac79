use Rattle.swreq_machine.specs.swreq_param.Tables.{Extends}
use Rattle.swreq_check.specs.Called.{AreCalled, AreLinesTo}
use Rattle.swreq_check.proofs.calling.all_lines.Given as goal

abbrev pub invariant-loop-k : goal.invariant-loop-k
invariant-loop-k l = record {
  extends : Extends l.initial.table l.table;
  called : AreCalled l.table l.called;
  lines : AreLinesTo l.initial.table l.called l.k l.lines.items;
}
