use Rattle.swreq_check.specs.CallLines.{caller_at}
use Rattle.swreq_check.specs.Wanted.{ArePlaces}
use Rattle.swreq_check.proofs.calling.places_of.Given as goal

abbrev pub invariant-loop-k : goal.invariant-loop-k
invariant-loop-k l = ArePlaces (caller_at l.calls) l.count l.k l.places.items
