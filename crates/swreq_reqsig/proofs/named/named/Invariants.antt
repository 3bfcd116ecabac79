use Rattle.std.proofs.Common.{◌+◌}
use Rattle.swreq_reqsig.specs.Named.{AreNamedBefore}
use Rattle.swreq_reqsig.proofs.named.named.Given as goal

abbrev pub invariant-loop-k : goal.invariant-loop-k
invariant-loop-k l = AreNamedBefore l.outlines l.k (l.fn.names + 1) l.lists
