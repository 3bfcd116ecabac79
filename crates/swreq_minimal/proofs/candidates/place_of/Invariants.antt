use Rattle.std.proofs.Common.{take}
use Rattle.swreq_minimal.proofs.Inserting.{NoneYet}
use Rattle.swreq_minimal.proofs.candidates.place_of.Given as goal

abbrev pub invariant-loop-k : goal.invariant-loop-k
invariant-loop-k l = NoneYet l.table l.found l.r (take l.k l.found)
