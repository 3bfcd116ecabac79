use Rattle.swreq_valid.proofs.Retold.{TellsBefore}
use Rattle.swreq_valid.proofs.again.tell_trace.Given as goal

abbrev pub invariant-loop-k : goal.invariant-loop-k
invariant-loop-k g l = TellsBefore l.base l.trace (g.W.Watch.told l.fn.watch) l.k (g.W.Watch.told l.watch)
