use Rattle.std.proofs.Common.{take}
use Rattle.swreq_trie.specs.Paths.{Leads}
use Rattle.swreq_trie.specs.Walk.{AreMetUpTo}
use Rattle.swreq_trie.proofs.walk.find_met.Given as goal

abbrev pub invariant-loop-k : goal.invariant-loop-k
invariant-loop-k l = record {
  walked : Leads l.edges 0 (take l.k l.w) l.node;
  met : AreMetUpTo l.edges l.ends l.w l.k l.nodes.items;
}
