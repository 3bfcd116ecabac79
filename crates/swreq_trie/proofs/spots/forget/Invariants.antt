use Rattle.swreq_trie.specs.Marks.{ForgetsBelow}
use Rattle.swreq_trie.proofs.spots.forget.Given as goal

abbrev pub invariant-loop-node : goal.invariant-loop-node
invariant-loop-node l = ForgetsBelow l.initial.lists.items l.lists.items l.side l.node
