use Rattle.std.proofs.Common.{map, take}
use Rattle.std.specs.Prelude.{All}
use Rattle.swreq_machine.specs.swreq_param.Tables.{Extends}
use Rattle.swreq_subst.specs.Calls.{IsCallIn, call_by}
use Rattle.swreq_subst.specs.Saying.{SayCalls}
use Rattle.swreq_subst.proofs.resolving.calls_of.Given as goal

abbrev pub invariant-loop-k : goal.invariant-loop-k
invariant-loop-k l = record {
  extends : Extends l.initial.table l.table;
  say : SayCalls l.words.world.now l.words.text.now (map (call_by l.table) l.found.items) (take l.k l.calls);
  known : All (IsCallIn l.table l.words.world.now) l.found.items;
}
