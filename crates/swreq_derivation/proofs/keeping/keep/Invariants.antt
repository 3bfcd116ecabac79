use Rattle.std.proofs.Common.{◌≡◌, map, take}
use Rattle.swreq_derivation.specs.Marks.{kept, renumbered}
use Rattle.swreq_derivation.proofs.keeping.keep.Given as goal

abbrev pub invariant-loop-k : goal.invariant-loop-k
invariant-loop-k l = l.out.items ≡ map (renumbered l.marks) (kept (take l.k l.marks) (take l.k l.lines))
