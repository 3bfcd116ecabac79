use Rattle.std.proofs.Common.{take}
use Rattle.swreq_complete.specs.Alike.{ReduceAlike}
use Rattle.swreq_valid.specs.Flags.{Tells}
use Rattle.swreq_valid.proofs.Planning.{IsToldBy}
use Rattle.swreq_valid.proofs.joining.shown_by_reduction.Given as goal

abbrev pub invariant-loop-k : goal.invariant-loop-k
invariant-loop-k l = Tells (IsToldBy l.text.world.now l.text.table.now (ReduceAlike l.rules)) (take l.k l.start.all.items) l.flags.items
