use Rattle.std.proofs.Common.{◌≡◌, ◌⊎◌, ◌↔◌, ℕ, List, [], length, take, slice_get, get_or, Some, Contains}
use Rattle.swreq_names.specs.Directories.{names_of}
use Rattle.swreq_names.proofs.declarers.add_names.Given as goal

abbrev pub invariant-loop-item : goal.invariant-loop-item
invariant-loop-item l = record {
  len : length l.lists ≡ length l.fn.lists;
  added : (r : ℕ) (q : List ℕ) → slice_get l.ranks r ≡ Some q → (j : ℕ)
      → Contains (get_or l.lists r []) j
      ↔ (Contains (get_or l.fn.lists r []) j ⊎ ((j ≡ l.place) × Contains (names_of (take l.item-index l.items)) q));
}
