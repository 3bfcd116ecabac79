use Rattle.std.proofs.lemmas.Result.{err_from_is_err_and}
use Rattle.swreq_complete.proofs.Listing.{stops_here}
use Rattle.swreq_complete.proofs.completion.settle_greater.Goals as goal

pub returns-in_err-find_places : goal.returns-in_err-find_places
returns-in_err-find_places g c =
    let a = c.args in
    let p = err_from_is_err_and c.from_residual.result c.from_residual.ensures.1 in
    rw (p.1, p.2)
    (stops_here a.task.now.limits a.task.now.base a.task.now.given.now a.rules.now a.greater
    (g.W.Watch.told a.watch.now) c.requires.so_far.progress c.requires.so_far.kept c.in_err-find_places.field-0.0
    c.in_err-find_places.ensures)
