use Rattle.std.proofs.Common.{take}
use Rattle.swreq_valid.specs.Flags.{Tells}
use Rattle.swreq_valid.proofs.Planning.{IsTold}
use Rattle.swreq_valid.proofs.usable.usable.Given as goal

abbrev pub invariant-loop-k : goal.invariant-loop-k
invariant-loop-k l = Tells (IsTold l.text.world.now l.text.table.now l.rules) (take l.k l.start.all.items) l.flags.items
