use Rattle.std.proofs.Common.{length}
use Rattle.swreq_machine.specs.swreq_param.Tables.{Extends}
use Rattle.swreq_check.specs.CallLines.{caller_at}
use Rattle.swreq_check.specs.Called.{HaveMachine, IsLineFor}
use Rattle.swreq_check.specs.Made.{AreMadeTo}
use Rattle.swreq_check.proofs.calling.put_all.Given as goal

abbrev pub invariant-loop-j : goal.invariant-loop-j
invariant-loop-j l =
    let of = l.of in
    let calls = of.called.calls.now in record {
      extends : Extends l.initial.table l.table;
      machine : HaveMachine l.table of l.machine;
      made : AreMadeTo (IsLineFor l.initial.table of.called) (caller_at calls) (length calls) of.f.place of.places.now l.j l.lines.items;
    }
