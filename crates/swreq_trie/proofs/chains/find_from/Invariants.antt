use Rattle.swreq_trie.specs.Chains.{IsLeft}
use Rattle.swreq_trie.proofs.Linked.{places_left}
use Rattle.swreq_trie.proofs.chains.find_from.Given as goal

abbrev pub invariant-back : goal.invariant-back
invariant-back l = IsLeft l.links l.edge l.last

abbrev pub decreases-back : goal.decreases-back
decreases-back l = places_left l.last
