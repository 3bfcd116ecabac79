-- The words of a table, by their ids.
use Rattle.std.specs.Prelude.{◌≡◌, ◌⊎◌, ◌<◌, List, [], ◌∷◌, ◌++◌, length, slice_get, Some, Contains}
use Rattle.swreq_word.specs.declared.symbols.Symbol.{Symbol}
use Rattle.swreq_word.specs.declared.table.WordId.{WordId}

-- the id is of the table
abbrev pub IsOf : List (List Symbol) → WordId → Type 0
IsOf words id = id.place < length words

-- the id stands for w in the table
abbrev pub StandsFor : List (List Symbol) → WordId → List Symbol → Type 0
StandsFor words id w = slice_get words id.place ≡ Some w

-- Ids that stand for one word are equal.
abbrev pub AreDistinct : List (List Symbol) → Type 0
AreDistinct words = (a b : WordId) (w : List Symbol) → StandsFor words a w → StandsFor words b w → a ≡ b

-- The id stands for w in the new table, which is the old one where it has w, and else the old one with w at its end.
pub record Interned (old new : List (List Symbol)) (w : List Symbol) (id : WordId) : Type 0 where
  pub is_of : IsOf new id
  pub stands : StandsFor new id w
  pub earlier : (other : WordId) (v : List Symbol) → StandsFor old other v → StandsFor new other v
  pub grown : (new ≡ old) ⊎ ((Contains old w → ⊥) × (new ≡ old ++ w ∷ []))
