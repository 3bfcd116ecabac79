use Rattle.swreq_machine.specs.swreq_param.Tables.{Extends}
use Rattle.swreq_machine.specs.swreq_valid.Plans.{AreKnown, listed}
use Rattle.swreq_minimal.specs.Sorted.{IsListOfFirstRules}
use Rattle.swreq_minimal.proofs.candidates.collect.Given as goal

abbrev pub invariant-loop-k : goal.invariant-loop-k
invariant-loop-k l = record {
  said : IsListOfFirstRules l.by.world.now.lexicon l.by.rules.now l.by.params l.system l.k (listed l.table l.found.items);
  known : AreKnown l.table l.by.world.now.lexicon l.found.items;
  extends : Extends l.initial.table l.table;
}
