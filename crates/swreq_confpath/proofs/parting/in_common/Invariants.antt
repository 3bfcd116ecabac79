use Rattle.std.proofs.Common.{◌≡◌, take}
use Rattle.swreq_confpath.proofs.parting.in_common.Given as goal

abbrev pub invariant-loop-k : goal.invariant-loop-k
invariant-loop-k l = take l.k l.u ≡ take l.k l.v
