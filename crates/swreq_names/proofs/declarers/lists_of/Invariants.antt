use Rattle.std.proofs.Common.{◌≡◌, ◌↔◌, ◌<◌, ℕ, List, [], length, slice_get, get_or, Some, Contains}
use Rattle.swreq_names.specs.Directories.{names_of}
use Rattle.swreq_names.proofs.declarers.lists_of.Given as goal

abbrev pub invariant-loop-place : goal.invariant-loop-place
invariant-loop-place l = record {
  len : length l.lists ≡ length l.ranks;
  listed : (r : ℕ) (q : List ℕ) → slice_get l.ranks r ≡ Some q → (j : ℕ)
      → Contains (get_or l.lists r []) j ↔ ((j < l.place) × Contains (names_of (get_or l.members j [])) q);
}
