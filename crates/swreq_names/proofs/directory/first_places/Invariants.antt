use Rattle.std.proofs.Common.{◌≡◌, ℕ, ◌≤◌, List, drop, length, slice_get, get_or, Some, None}
use Rattle.std.specs.List.{position_from}
use Rattle.std.specs.Str.{bytes_eq}
use Rattle.swreq_names.specs.Directories.{names_of}
use Rattle.swreq_names.proofs.directory.first_places.Given as goal

abbrev pub invariant-loop-i : goal.invariant-loop-i
invariant-loop-i l = record {
  within : l.i ≤ length l.items;
  len : length l.firsts.items ≡ length l.ranks;
  first : (r : ℕ) (q : List ℕ) → slice_get l.ranks r ≡ Some q
      → get_or l.firsts.items r None ≡ position_from (bytes_eq q) l.i (drop l.i (names_of l.items));
}

abbrev pub decreases-loop-i : goal.decreases-loop-i
decreases-loop-i l = l.i
