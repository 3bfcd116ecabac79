-- The places of a new side and the stored ones.
use Rattle.std.specs.Prelude.{◌≡◌, ◌⊎◌, ℕ, ◌<◌, List, slice_get, Some}
use Rattle.std.specs.declared.cmp.Ordering.TheVariants.{Less}
use Rattle.swreq_rule.specs.swreq_word.declared.symbols.Symbol.{Symbol}
use Rattle.swreq_rule.specs.swreq_word.Overlap.{Overlap, Containment}
use Rattle.swreq_rule.specs.declared.rules.Place.{Place}
use Rattle.swreq_rule.specs.Places.{place_cmp}
use Rattle.swreq_trie.specs.declared.trie.Entry.{Entry}

-- the first word overlaps the second at the place, or the second stands in the first there
abbrev pub Meets : List Symbol → List Symbol → ℕ → Type 0
Meets u v at = Overlap u v at ⊎ Containment u v at

-- the place of a pair of the stored side with index k, which has a number below that of the new one, with the new one
pub record IsOnto (stored : List Entry) (left : List Symbol) (number k at : ℕ) (place : Place) : Type 0 where
  pub entry : Entry
  pub is_entry : slice_get stored k ≡ Some entry
  pub below : entry.number < number
  pub meets : Meets entry.left left at
  pub place_is : place ≡ record { i = entry.number; j = number; at = at }

-- the place of a pair of the new side with the stored one with index k, which has a number below its own
pub record IsFrom (stored : List Entry) (left : List Symbol) (number k at : ℕ) (place : Place) : Type 0 where
  pub entry : Entry
  pub is_entry : slice_get stored k ≡ Some entry
  pub below : entry.number < number
  pub meets : Meets left entry.left at
  pub place_is : place ≡ record { i = number; j = entry.number; at = at }

-- the place of a pair of the new side with itself
pub record IsOwn (left : List Symbol) (number at : ℕ) (place : Place) : Type 0 where
  pub overlap : Overlap left left at
  pub place_is : place ≡ record { i = number; j = number; at = at }

-- the place of a pair of the new side with a stored one that has a number below its own, or with itself
abbrev pub IsPlace : List Entry → List Symbol → ℕ → Place → Type 0
IsPlace stored left number place =
    ((k : ℕ) × (at : ℕ) × IsOnto stored left number k at place)
    ⊎ (((k : ℕ) × (at : ℕ) × IsFrom stored left number k at place) ⊎ ((at : ℕ) × IsOwn left number at place))

-- all of these places, each once, in the order of places, and nothing else
pub record ArePlaces (stored : List Entry) (left : List Symbol) (number : ℕ) (places : List Place) : Type 0 where
  pub each : (k : ℕ) (place : Place) → slice_get places k ≡ Some place → IsPlace stored left number place
  pub all : (place : Place) → IsPlace stored left number place → (k : ℕ) × (slice_get places k ≡ Some place)
  pub ordered : (j k : ℕ) (p q : Place) → j < k → slice_get places j ≡ Some p → slice_get places k ≡ Some q → place_cmp p q ≡ Less
