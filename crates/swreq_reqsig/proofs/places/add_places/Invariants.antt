use Rattle.std.proofs.Common.{◌≡◌, ◌+◌, ◌++◌, drop}
use Rattle.swreq_reqsig.specs.Places.{places_from}
use Rattle.swreq_reqsig.proofs.places.add_places.Given as goal

abbrev pub invariant-loop-k : goal.invariant-loop-k
invariant-loop-k l = l.all.items ++ places_from l.p (l.k + 1) (drop l.k l.list) ≡ l.initial.all.items ++ places_from l.p 1 l.list
