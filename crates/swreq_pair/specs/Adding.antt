-- Pairs that are added to a list, for the loops over places alone.
use Rattle.std.specs.Prelude.{◌≡◌, ◌⊎◌, ℕ, ◌<◌, List, ◌++◌, max}
use Rattle.swreq_rule.specs.declared.rules.Rule.{Rule}
use Rattle.swreq_rule.specs.declared.rules.Place.{Place}
use Rattle.swreq_pair.specs.declared.pairs.Pair.{Pair}
use Rattle.swreq_pair.specs.PairLists.{ArePairs}

-- all pairs at wanted places were added at the end
pub record Adds (rules : List Rule) (Wanted : Place → Type 0) (old new : List Pair) : Type 0 where
  pub more : List Pair
  pub new_is : new ≡ old ++ more
  pub pairs : ArePairs rules Wanted more

-- this place
abbrev pub At : Place → Place → Type 0
At this place = place ≡ this

-- the places of two rules before this one
abbrev pub OfBelow : ℕ → ℕ → ℕ → Place → Type 0
OfBelow i j at place = (place.i ≡ i) × (place.j ≡ j) × (place.at < at)

-- the places with this greater number whose first number is below i
abbrev pub FirstBelow : ℕ → ℕ → Place → Type 0
FirstBelow greater i place = (max place.i place.j ≡ greater) × (place.i < i)

-- those whose first number is below the greater one, or is it with a second number below j
abbrev pub SecondBelow : ℕ → ℕ → Place → Type 0
SecondBelow greater j place = (max place.i place.j ≡ greater) × ((place.i < greater) ⊎ ((place.i ≡ greater) × (place.j < j)))
