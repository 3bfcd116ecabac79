use Rattle.swreq_homotopy.specs.Search.{NoneShownBefore}
use Rattle.swreq_homotopy.proofs.showing.redundant.Given as goal

abbrev pub invariant-loop-k : goal.invariant-loop-k
invariant-loop-k l = NoneShownBefore l.keep l.may l.loops l.k
