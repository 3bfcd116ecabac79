use Rattle.std.proofs.Common.{◌+◌, ◌≤◌, length, Contains}
use Rattle.swreq_print.specs.swreq_derive.declared.lines.Line.{Line}
use Rattle.swreq_print.specs.swreq_param.Tables.{Extends}
use Rattle.swreq_lines.specs.LineTexts.{HasLineIds}
use Rattle.swreq_lines.proofs.SoFar.{AreSoFar}
use Rattle.swreq_lines.proofs.lines.read_lines.Given as goal

abbrev pub invariant-loop-found : goal.invariant-loop-found
invariant-loop-found l = record {
  ids : (q : Line) → Contains l.lines.items q → HasLineIds l.names l.table q;
  extends : Extends l.fn.table l.table;
  so_far : AreSoFar l.names l.table l.text l.rest l.lines.items;
  count : length l.lines.items + length l.rest ≤ length l.text;
}

abbrev pub decreases-loop-found : goal.decreases-loop-found
decreases-loop-found l = length l.rest
