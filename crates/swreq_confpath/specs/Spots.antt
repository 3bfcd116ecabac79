-- What the code keeps of the numbers that were tried.
use Rattle.std.specs.Prelude.{◌≡◌, ◌⊎◌, ℕ, List, [], ◌∷◌, ◌++◌, Contains}
use Rattle.swreq_print.specs.swreq_word.declared.symbols.Symbol.{Symbol}
use Rattle.swreq_confpath.specs.declared.places.Place.{Place}
use Rattle.swreq_confpath.specs.declared.places.Place.TheVariants.{Start, Conformance}

-- the least word of the subject, which has no symbols at the start
abbrev pub word_at : Place → List Symbol
word_at Start = []
word_at (Conformance u q) = u

-- a place, and the numbers that led there first
abbrev pub Spot : Type 0
Spot = Place × List ℕ

-- One of the spots is of this place.
abbrev pub IsReached : List Spot → Place → Type 0
IsReached spots p = (s : Spot) × Contains spots s × (s.0 ≡ p)

-- The place comes last with these numbers, or it was reached before, and nothing changes.
abbrev pub IsKept : (old new : List Spot) → Place → List ℕ → Type 0
IsKept old new p numbers = (IsReached old p × (new ≡ old)) ⊎ (new ≡ old ++ (p, numbers) ∷ [])
