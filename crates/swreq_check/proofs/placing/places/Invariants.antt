use Rattle.std.proofs.Common.{length}
use Rattle.swreq_check.specs.Wanted.{ArePlaces, maker}
use Rattle.swreq_check.proofs.placing.places.Given as goal

abbrev pub invariant-loop-k : goal.invariant-loop-k
invariant-loop-k l = ArePlaces (maker l.text.world.now l.content) (length l.text.world.now.signatures) l.k l.places.items
