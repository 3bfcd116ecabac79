-- How far a completion has come, for its loops alone.
use Rattle.std.specs.Prelude.{◌≡◌, ◌⊎◌, ℕ, ◌<◌, ◌≤◌, List, [], ◌∷◌, ◌++◌, length, slice_get, Some, max}
use Rattle.swreq_rule.specs.swreq_word.declared.symbols.Symbol.{Symbol}
use Rattle.std.specs.declared.cmp.Ordering.TheVariants.{Less}
use Rattle.swreq_rule.specs.declared.rules.Rule.{Rule}
use Rattle.swreq_rule.specs.declared.rules.Place.{Place}
use Rattle.swreq_rule.specs.Places.{place_cmp}
use Rattle.swreq_rule.specs.declared.rules.Birth.{Birth}
use Rattle.swreq_rule.specs.declared.rules.Birth.TheVariants.{Given, Pair}
use Rattle.swreq_rule.specs.Reduction.{Reduces}
use Rattle.swreq_pair.specs.Pairs.{HasPair, IsPair}
use Rattle.swreq_complete.specs.Moments.{HasSides, greater_number}
use Rattle.swreq_rule.specs.Oriented.{IsOriented}
use Rattle.swreq_complete.specs.Settled.{Settled}
use Rattle.swreq_complete.specs.Reached.{IsBorn}

-- what settling a moment with these two sides does to the rules so far
pub record Settles (old new : List Rule) (moment : Birth) (left right : List Symbol) : Type 0 where
  pub left_end : List Symbol
  pub right_end : List Symbol
  pub left_reduces : Reduces old left left_end
  pub right_reduces : Reduces old right right_end
  pub outcome : ((left_end ≡ right_end) × (new ≡ old))
      ⊎ ((rule : Rule) × (new ≡ old ++ rule ∷ []) × (rule.birth ≡ moment) × IsOriented rule left_end right_end)

-- what settling the pair of two rules at a place does
abbrev pub SettlesPlace : List Rule → List Rule → Place → Type 0
SettlesPlace old new place =
    (l : List Symbol) × (r : List Symbol) × IsPair old place l r × Settles old new (Pair place.i place.j place.at) l r

-- The moments that were visited are settled, and each rule past the base is born of one of them.
pub record Progress (base : ℕ) (given : List (List Symbol × List Symbol)) (trace : List Rule) (Visited : Birth → Type 0) : Type 0 where
  pub has_base : base ≤ length trace
  pub born : (k : ℕ) (rule : Rule) → base ≤ k → slice_get trace k ≡ Some rule
      → IsBorn base given trace k rule.birth × Visited rule.birth
  pub settled : (m : Birth) (left right : List Symbol) → HasSides base given trace m left right → Visited m
      → Settled base trace m left right
  pub known : (m : Birth) → Visited m → greater_number m ≤ length trace

-- the first n equations
abbrev pub GivenBelow : ℕ → Birth → Type 0
GivenBelow count (Given n) = (0 < n) × (n ≤ count)
GivenBelow count (Pair i j at) = ⊥

-- all equations, and all pairs whose greater number is less
abbrev pub UpTo : ℕ → Birth → Type 0
UpTo greater (Given n) = Unit {0}
UpTo greater (Pair i j at) = max i j < greater

-- all equations, all pairs whose greater number is less, and the pairs at the first n of the places
abbrev pub Listed : ℕ → List Place → ℕ → Birth → Type 0
Listed greater places count (Given n) = Unit {0}
Listed greater places count (Pair i j at) =
    (max i j < greater) ⊎ ((n : ℕ) × (n < count) × (slice_get places n ≡ Some (record { i = i; j = j; at = at })))

-- all places of pairs with this greater number, in order
pub record AreAllPlaces (rules : List Rule) (greater : ℕ) (places : List Place) : Type 0 where
  pub each : (n : ℕ) (place : Place) → slice_get places n ≡ Some place
      → (max place.i place.j ≡ greater) × HasPair rules place
  pub all : (place : Place) (left right : List Symbol) → IsPair rules place left right → max place.i place.j ≡ greater
      → (n : ℕ) × (slice_get places n ≡ Some place)
  pub ordered : (j k : ℕ) (p q : Place) → j < k → slice_get places j ≡ Some p → slice_get places k ≡ Some q → place_cmp p q ≡ Less
