-- Sets of places.
use Rattle.std.specs.Prelude.{◌≡◌, ℕ, Bool, ◌&&◌, List, length, slice_index_or}
use Rattle.swreq_closure.specs.Bits.{has, room, count_below}

-- The set has these places, and each place stands once in the list: as many members of the set pass a test as places of the list do.
abbrev pub IsSetOf : List ℕ → List ℕ → Type 0
IsSetOf places set = (test : ℕ → Bool)
    → count_below (λ k. test k && has set k) (room set) ≡ count_below (λ r. test (slice_index_or places r 0)) (length places)
