use Rattle.swreq_confpath.specs.Parting.{FirstSpareOthers}
use Rattle.swreq_confpath.proofs.parting.changed_symbols.Given as goal

abbrev pub invariant-loop-k : goal.invariant-loop-k
invariant-loop-k l = FirstSpareOthers l.rules l.k l.changed.items
