use Rattle.std.proofs.Common.{◌≤◌, ◌<◌, ◌+◌, ◌-◌, max}
use Rattle.swreq_complete.specs.Progress.{UpTo}
use Rattle.swreq_complete.specs.Settling.{HasCome}
use Rattle.swreq_complete.proofs.completion.complete.Given as goal

abbrev pub invariant-greater : goal.invariant-greater
invariant-greater g l = record {
  goes : HasCome l.task.limits l.task.base l.task.given.now (UpTo l.greater) l.fn.rules l.rules (g.W.Watch.told l.fn.watch)
      (g.W.Watch.told l.watch);
  new : l.task.base < l.greater;
  small : l.greater ≤ max l.task.base l.task.limits.max_rules + 1;
}

abbrev pub decreases-greater : goal.decreases-greater
decreases-greater g l = (max l.task.base l.task.limits.max_rules + 2) - l.greater
