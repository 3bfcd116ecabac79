use Rattle.std.proofs.Common.{◌≡◌, ◌<◌, ℕ}
use Rattle.swreq_trie.specs.Paths.{IsGrown, IsForked}
use Rattle.swreq_trie.specs.Marks.{KeepsListed, ListsOnly}
use Rattle.swreq_trie.specs.Index.{IsInsideBelow, IsWithin, spot_of}
use Rattle.swreq_trie.proofs.walk.add_inside.Given as goal

abbrev pub invariant-loop-at : goal.invariant-loop-at
invariant-loop-at l = record {
  spots : IsInsideBelow l.edges l.inside.items l.side (record { left = l.left; number = l.number }) l.at;
  only : ListsOnly l.fn.inside.items l.inside.items
      (λ n s. (at : ℕ) × (s ≡ spot_of l.side (record { left = l.left; number = l.number }) at) × IsWithin l.edges l.left at n);
  grown : IsGrown l.fn.edges l.edges;
  forked : IsForked l.edges;
  inside : KeepsListed l.fn.inside.items l.inside.items;
  some : 0 < l.at;
}
