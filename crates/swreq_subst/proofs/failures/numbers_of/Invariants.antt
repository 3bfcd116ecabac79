use Rattle.std.proofs.Common.{List, map}
use Rattle.swreq_machine.specs.swreq_param.Tables.{Extends, term_at}
use Rattle.swreq_machine.specs.swreq_derive.Derivation.{TermRequirement}
use Rattle.swreq_machine.specs.swreq_derive.Derivation.Source.{Written}
use Rattle.swreq_machine.specs.swreq_derive.Facts.{generic_params}
use Rattle.swreq_machine.specs.Machines.{IsMachineOf}
use Rattle.swreq_machine.specs.swreq_valid.Plans.{listed}
use Rattle.swreq_machine.specs.swreq_world.ByTable.{world_by}
use Rattle.swreq_machine.specs.swreq_world.FactsAt.{facts_of}
use Rattle.swreq_subst.specs.Failing.{AreFailingUpTo}
use Rattle.swreq_subst.proofs.failures.numbers_of.Given as goal

abbrev pub invariant-loop-k : goal.invariant-loop-k
invariant-loop-k l = record {
  extends : Extends l.initial.table l.table;
  failing : (given : List TermRequirement) → IsMachineOf (world_by l.initial.table l.by.world.now) given l.by.machine.now
      → AreFailingUpTo (facts_of (world_by l.initial.table l.by.world.now))
      (Written (generic_params l.by.machine.now.params) given) l.by.params
      (map (term_at l.initial.table) l.by.args.now) (listed l.initial.table l.list) l.k l.numbers.items;
}
