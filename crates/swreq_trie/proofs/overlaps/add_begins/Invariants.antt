use Rattle.swreq_trie.specs.Keys.{Gains, IsBeginKey}
use Rattle.swreq_trie.proofs.Collecting.{GainedBelow}
use Rattle.swreq_trie.proofs.overlaps.add_begins.Given as goal

abbrev pub invariant-loop-spot : goal.invariant-loop-spot
invariant-loop-spot l = Gains (GainedBelow l.spots (IsBeginKey l.number) l.spot-index) l.initial.keys.items l.keys.items
