use Rattle.std.proofs.Common.{◌≡◌, ◌++◌, drop, map}
use Rattle.swreq_reqsig.specs.Families.{numbers_from}
use Rattle.swreq_reqsig.proofs.flags.family_of.Given as goal

abbrev pub invariant-loop-k : goal.invariant-loop-k
invariant-loop-k l = l.kept.items ++ map (numbers_from 1) (drop l.k l.lists.items) ≡ map (numbers_from 1) l.lists.items
