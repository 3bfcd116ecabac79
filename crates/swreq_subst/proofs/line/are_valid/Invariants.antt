use Rattle.std.proofs.Common.{List, take}
use Rattle.swreq_machine.specs.swreq_derive.Derivation.{TermRequirement}
use Rattle.swreq_machine.specs.Asked.{IsDerivable}
use Rattle.swreq_machine.specs.Machines.{IsMachineOf}
use Rattle.swreq_subst.specs.Calls.{AreAllValid}
use Rattle.swreq_machine.specs.swreq_symbols.Texts.{world_of}
use Rattle.swreq_subst.proofs.line.are_valid.Given as goal

abbrev pub invariant-loop-k : goal.invariant-loop-k
invariant-loop-k l = (list : List TermRequirement) → IsMachineOf (world_of l.text) list l.machine
    → AreAllValid (IsDerivable (world_of l.text) l.machine list) l.text.table.now (take l.k l.args)
