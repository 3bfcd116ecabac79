use Rattle.std.proofs.Common.{◌≡◌, take}
use Rattle.swreq_trie.specs.Paths.{Leads, IsGrown, IsForked}
use Rattle.swreq_trie.specs.Marks.{KeepsListed, ListsOnly}
use Rattle.swreq_trie.specs.Index.{IsOnWay, IsPassingUpTo}
use Rattle.swreq_trie.proofs.walk.make_path.Given as goal

abbrev pub invariant-loop-symbol : goal.invariant-loop-symbol
invariant-loop-symbol l = record {
  walked : Leads l.edges 0 (take l.symbol-index l.left) l.node;
  listed : IsPassingUpTo l.edges l.passing.items l.begin l.left l.symbol-index;
  only : ListsOnly l.fn.passing.items l.passing.items (λ n s. (s ≡ l.begin) × IsOnWay l.edges l.left n);
  grown : IsGrown l.fn.edges l.edges;
  forked : IsForked l.edges;
  passing : KeepsListed l.fn.passing.items l.passing.items;
}
