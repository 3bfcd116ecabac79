use Rattle.std.proofs.Common.{take}
use Rattle.swreq_complete.specs.swreq_watch.Told.{GrewBy}
use Rattle.swreq_valid.specs.Again.{events_of}
use Rattle.swreq_valid.proofs.round.Rounds.tell_again.Given as goal

abbrev pub invariant-loop-k : goal.invariant-loop-k
invariant-loop-k g l = GrewBy (g.W.Watch.told l.fn.watch) (g.W.Watch.told l.watch) (events_of l.base (take l.k l.before))
