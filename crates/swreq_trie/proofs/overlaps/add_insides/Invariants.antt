use Rattle.swreq_trie.specs.Keys.{Gains, IsInsideKey}
use Rattle.swreq_trie.proofs.Collecting.{GainedBelow}
use Rattle.swreq_trie.proofs.overlaps.add_insides.Given as goal

abbrev pub invariant-loop-spot : goal.invariant-loop-spot
invariant-loop-spot l = Gains (GainedBelow l.spots (IsInsideKey l.entries l.left l.number) l.spot-index) l.initial.keys.items l.keys.items
