use Rattle.swreq_homotopy.specs.Search.{AreOfOthersBelow}
use Rattle.swreq_homotopy.proofs.showing.are_of_others.Given as goal

abbrev pub invariant-loop-k : goal.invariant-loop-k
invariant-loop-k l = AreOfOthersBelow l.keep l.number l.steps l.k
