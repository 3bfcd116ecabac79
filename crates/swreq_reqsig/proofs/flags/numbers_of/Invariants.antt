use Rattle.std.proofs.Common.{◌≡◌, ◌+◌, ◌++◌, drop}
use Rattle.swreq_reqsig.specs.Families.{numbers_from}
use Rattle.swreq_reqsig.proofs.flags.numbers_of.Given as goal

abbrev pub invariant-loop-k : goal.invariant-loop-k
invariant-loop-k l = l.numbers.items ++ numbers_from (l.k + 1) (drop l.k l.flags) ≡ numbers_from 1 l.flags
