-- Grammars as data, and the texts of a grammar with the values that they stand for.
use Rattle.std.specs.Prelude.{◌≡◌, ℕ, ◌≤◌, Bool, List, [], ◌∷◌, ◌++◌, length, IsTrue, nat_eq, ◌⊎◌}
use Rattle.std.specs.List.{list_any}
use Rattle.swreq_grammar.specs.declared.token.Token.{Token}

-- How many parts a repetition may have: any number, or at most this many. One part more is refused, with the label.
pub data Limit (L : Type 0) : Type 0 where
  unlimited : Limit L
  at_most : ℕ → L → Limit L

-- A grammar over the terminal symbols T, with labels in L. Each of its texts stands for a value.
pub data Grammar (T L : Type 0) : Type 0 → Type 1 where
  -- one token of one of these terminals; it stands for itself
  terminal : List T → Grammar T L (Token T)
  -- the empty text
  empty : {A : Type 0} → A → Grammar T L A
  -- the texts of a grammar, with another value
  mapped : {A B : Type 0} → (A → B) → Grammar T L A → Grammar T L B
  -- a text of the first, then one of the second
  sequence : {A B : Type 0} → Grammar T L A → Grammar T L B → Grammar T L (A × B)
  -- a text of one of the two
  alternative : {A : Type 0} → Grammar T L A → Grammar T L A → Grammar T L A
  -- texts of a grammar, one after another
  repetition : {A : Type 0} → Limit L → Grammar T L A → Grammar T L (List A)
  -- the texts of a grammar; a token that begins none of them is refused with the label
  labelled : {A : Type 0} → L → Grammar T L A → Grammar T L A

abbrev pub Within : {L : Type 0} → Limit L → ℕ → Type 0
Within unlimited n = Unit {0}
Within (at_most limit label) n = n ≤ limit

-- the texts of the parts, one after another
abbrev pub Parts : {T A : Type 0} → (List (Token T) → A → Type 0) → List (Token T) → List A → Type 0
Parts texts ts [] = ts ≡ []
Parts {T} texts ts (v ∷ vs) = (first rest : List (Token T)) × (ts ≡ first ++ rest) × texts first v × Parts texts rest vs

-- Terminals are told apart by their numbers.
module _ {T : Type 0} (number : T → ℕ) where
  -- the terminal is one of these
  abbrev pub has : List T → T → Bool
  has terminals t = list_any (λ c. nat_eq (number c) (number t)) terminals

  -- The tokens are a text of the grammar, and it stands for the value.
  abbrev pub Matches : {L A : Type 0} → Grammar T L A → List (Token T) → A → Type 0
  Matches (terminal terminals) ts t = (ts ≡ t ∷ []) × IsTrue (has terminals t.terminal)
  Matches (empty v) ts w = (ts ≡ []) × (v ≡ w)
  Matches (mapped {A} f g) ts w = (v : A) × Matches g ts v × (f v ≡ w)
  Matches (sequence g h) ts p = (first rest : List (Token T)) × (ts ≡ first ++ rest) × Matches g first p.0 × Matches h rest p.1
  Matches (alternative g h) ts v = Matches g ts v ⊎ Matches h ts v
  Matches (repetition limit g) ts vs = Parts (Matches g) ts vs × Within limit (length vs)
  Matches (labelled label g) ts v = Matches g ts v
