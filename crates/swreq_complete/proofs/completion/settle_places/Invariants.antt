use Rattle.swreq_complete.specs.Progress.{Listed}
use Rattle.swreq_complete.specs.Settling.{HasCome}
use Rattle.swreq_complete.proofs.completion.settle_places.Given as goal

abbrev pub invariant-loop-n : goal.invariant-loop-n
invariant-loop-n g l = HasCome l.task.limits l.task.base l.task.given.now (Listed l.greater l.places l.n) l.fn.rules l.rules
    (g.W.Watch.told l.fn.watch) (g.W.Watch.told l.watch)
