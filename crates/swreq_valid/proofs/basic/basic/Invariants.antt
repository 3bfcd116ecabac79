use Rattle.swreq_valid.proofs.OfProtocols.{AreBasicBefore}
use Rattle.swreq_valid.proofs.basic.basic.Given as goal

abbrev pub invariant-loop-k : goal.invariant-loop-k
invariant-loop-k l = AreBasicBefore l.world.lexicon l.k l.v.items
