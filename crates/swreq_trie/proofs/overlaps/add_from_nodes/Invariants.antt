use Rattle.swreq_trie.specs.declared.spots.Spot.{Spot}
use Rattle.swreq_trie.specs.Marks.{IsListed}
use Rattle.swreq_trie.specs.Keys.{Gains, IsFromKey}
use Rattle.swreq_trie.proofs.Collecting.{GainedBelow}
use Rattle.swreq_trie.proofs.overlaps.add_from_nodes.Given as goal

abbrev pub invariant-loop-met : goal.invariant-loop-met
invariant-loop-met l = Gains
    (GainedBelow l.nodes
    (λ met key. (spot : Spot) × IsListed l.lists met.node spot × IsFromKey l.number l.at l.long met.depth spot key) l.met-index)
    l.initial.keys.items l.keys.items
