use Rattle.std.proofs.Common.{◌≡◌, map, take}
use Rattle.swreq_derivation.specs.Marks.{new_number}
use Rattle.swreq_derivation.proofs.keeping.renumbered.Given as goal

abbrev pub invariant-loop-k : goal.invariant-loop-k
invariant-loop-k l = l.premises.items ≡ map (new_number l.marks) (take l.k l.old)
