use Rattle.std.proofs.Common.{subst}
use Rattle.swreq_trie.specs.Paths.{NoChild}
use Rattle.swreq_trie.specs.Chains.{edges_of}
use Rattle.swreq_trie.proofs.chains.make_child.Goals as goal

pub add_child-requires-clause-new : goal.add_child-requires-clause-new
add_child-requires-clause-new c =
    subst (λ links. NoChild (edges_of links) c.args.edge.from c.args.edge.symbol) c.deref.ensures.value c.in-None.ensures
