use Rattle.swreq_trie.proofs.Linked.{left_first}
use Rattle.swreq_trie.proofs.chains.find_child.Goals as goal

pub find_from-requires-clause-left : goal.find_from-requires-clause-left
find_from-requires-clause-left c =
    left_first c.args.links.now c.args.heads.now c.requires c.args.edge c.chain.result c.chain.ensures c.end_at.result c.end_at.ensures
