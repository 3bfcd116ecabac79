-- The collection of places by their keys, for its loops alone.
use Rattle.std.specs.Prelude.{◌≡◌, ◌⊎◌, ℕ, suc, ◌+◌, ◌<◌, List, slice_get, Some}
use Rattle.std.specs.Ordering.{nat_cmp, ordering_then}
use Rattle.std.specs.declared.cmp.Ordering.{Ordering}
use Rattle.std.specs.declared.cmp.Ordering.TheVariants.{Less}
use Rattle.swreq_rule.specs.swreq_word.declared.symbols.Symbol.{Symbol}
use Rattle.swreq_rule.specs.declared.rules.Place.{Place}
use Rattle.swreq_trie.specs.declared.trie.Entry.{Entry}
use Rattle.swreq_trie.specs.Marks.{Holds}
use Rattle.swreq_trie.specs.Places.{Meets}
use Rattle.swreq_rule.specs.swreq_word.Overlap.{Overlap}
use Rattle.swreq_trie.specs.declared.spots.Spot.{Spot}

-- the key of a place
abbrev pub place_of : ℕ × ℕ × ℕ → Place
place_of key = record { i = key.0; j = key.1; at = key.2 }

abbrev pub key_of : Place → ℕ × ℕ × ℕ
key_of place = (place.i, place.j, place.at)

-- the order of keys, from the left
abbrev pub key_cmp : ℕ × ℕ × ℕ → ℕ × ℕ × ℕ → Ordering
key_cmp a b = ordering_then (ordering_then (nat_cmp a.0 b.0) (nat_cmp a.1 b.1)) (nat_cmp a.2 b.2)

-- These keys were added, and no others.
pub record Gains (Gained : ℕ × ℕ × ℕ → Type 0) (old new : List (ℕ × ℕ × ℕ)) : Type 0 where
  pub kept : (key : ℕ × ℕ × ℕ) → Holds old key → Holds new key
  pub only : (key : ℕ × ℕ × ℕ) → Holds new key → Holds old key ⊎ Gained key
  pub all : (key : ℕ × ℕ × ℕ) → Gained key → Holds new key

-- the key of the start of a side with a number below this one
abbrev pub IsBeginKey : ℕ → Spot → ℕ × ℕ × ℕ → Type 0
IsBeginKey number spot key = (spot.number < number) × (key ≡ (spot.number, number, 0))

-- the side of the spot, from which on it has one symbol alone, or the new side meets it there
abbrev pub MeetsAt : List Entry → List Symbol → Spot → Type 0
MeetsAt stored left spot = (spot.rest ≡ 1) ⊎ ((entry : Entry) × (slice_get stored spot.side ≡ Some entry) × Meets entry.left left spot.at)

abbrev pub IsInsideKey : List Entry → List Symbol → ℕ → Spot → ℕ × ℕ × ℕ → Type 0
IsInsideKey stored left number spot key = (spot.number < number) × (key ≡ (spot.number, number, spot.at)) × MeetsAt stored left spot

-- the side of the spot ends after this many symbols, or the new side does, which has this many from the place on, past its start
abbrev pub IsEnded : ℕ → ℕ → ℕ → Spot → Type 0
IsEnded at long depth spot = (spot.rest ≡ depth) ⊎ ((0 < at) × (at + depth ≡ long))

abbrev pub IsFromKey : ℕ → ℕ → ℕ → ℕ → Spot → ℕ × ℕ × ℕ → Type 0
IsFromKey number at long depth spot key = (spot.number < number) × (key ≡ (number, spot.number, at)) × IsEnded at long depth spot

abbrev pub IsOwnKey : List Symbol → ℕ → ℕ → ℕ × ℕ × ℕ → Type 0
IsOwnKey left number at key = Overlap left left at × (key ≡ (number, number, at))

-- the places of keys, each once, in the order of keys
pub record AreTheirPlaces (keys : List (ℕ × ℕ × ℕ)) (places : List Place) : Type 0 where
  pub each : (k : ℕ) (place : Place) → slice_get places k ≡ Some place → Holds keys (key_of place)
  pub all : (key : ℕ × ℕ × ℕ) → Holds keys key → Holds places (place_of key)
  pub ordered : (j k : ℕ) (p q : Place) → j < k → slice_get places j ≡ Some p → slice_get places k ≡ Some q
      → key_cmp (key_of p) (key_of q) ≡ Less

-- the same of the first `count` keys, the last of which is not below that of a place
pub record ArePlacesBelow (keys : List (ℕ × ℕ × ℕ)) (count : ℕ) (places : List Place) : Type 0 where
  pub each : (k : ℕ) (place : Place) → slice_get places k ≡ Some place → Holds keys (key_of place)
  pub all : (k : ℕ) (key : ℕ × ℕ × ℕ) → k < count → slice_get keys k ≡ Some key → Holds places (place_of key)
  pub ordered : (j k : ℕ) (p q : Place) → j < k → slice_get places j ≡ Some p → slice_get places k ≡ Some q
      → key_cmp (key_of p) (key_of q) ≡ Less
  pub last : (k : ℕ) (place : Place) → slice_get places k ≡ Some place
      → (n : ℕ) × (key : ℕ × ℕ × ℕ) × (suc n ≡ count) × (slice_get keys n ≡ Some key)
      × ((key_cmp (key_of place) key ≡ Less) ⊎ (key_of place ≡ key))
