use Rattle.std.proofs.Common.{◌≡◌, take}
use Rattle.swreq_valid.proofs.completing.copies.Given as goal

abbrev pub invariant-loop-e : goal.invariant-loop-e
invariant-loop-e l = l.v.items ≡ take l.e-index l.equations
