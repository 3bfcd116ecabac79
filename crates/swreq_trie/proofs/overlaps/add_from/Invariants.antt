use Rattle.swreq_trie.specs.Keys.{Gains, IsFromKey}
use Rattle.swreq_trie.proofs.Collecting.{GainedBelow}
use Rattle.swreq_trie.proofs.overlaps.add_from.Given as goal

abbrev pub invariant-loop-spot : goal.invariant-loop-spot
invariant-loop-spot l = Gains (GainedBelow l.spots (IsFromKey l.number l.at l.long l.depth) l.spot-index) l.initial.keys.items l.keys.items
