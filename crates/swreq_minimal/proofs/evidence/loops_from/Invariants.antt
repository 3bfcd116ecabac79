use Rattle.swreq_homotopy.specs.Evidence.{AreLoops}
use Rattle.swreq_minimal.proofs.evidence.loops_from.Given as goal

abbrev pub invariant-loop-k : goal.invariant-loop-k
invariant-loop-k l = AreLoops l.all.rules.now l.loops.items
