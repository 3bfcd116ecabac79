-- The reader of a grammar with one token ahead, and the grammars for which one token tells what to do.
use Rattle.std.specs.Prelude.{ℕ, zero, suc, Bool, true, false, ◌&&◌, ◌||◌, List, [], ◌∷◌, ◌++◌, length, Option, Some, None, Result, Ok, Err, cond, not}
use Rattle.swreq_grammar.specs.declared.token.Token.{Token}
use Rattle.swreq_grammar.specs.Grammar.{Limit, unlimited, at_most, Grammar, terminal, empty, mapped, sequence, alternative, repetition, labelled, has}

-- ---- sets of terminals

-- a text of the grammar may be empty
abbrev pub nullable : {T L A : Type 0} → Grammar T L A → Bool
nullable (terminal terminals) = false
nullable (empty v) = true
nullable (mapped f g) = nullable g
nullable (sequence g h) = nullable g && nullable h
nullable (alternative g h) = nullable g || nullable h
nullable (repetition limit g) = true
nullable (labelled label g) = nullable g

-- the first set: the terminals with which a text may begin
abbrev pub first_set : {T L A : Type 0} → Grammar T L A → List T
first_set (terminal terminals) = terminals
first_set (empty v) = []
first_set (mapped f g) = first_set g
first_set (sequence g h) = first_set g ++ cond (nullable g) (first_set h) []
first_set (alternative g h) = first_set g ++ first_set h
first_set (repetition limit g) = first_set g
first_set (labelled label g) = first_set g

-- the follow-last set: the terminals with which a longer text may go on after a whole text
abbrev pub follow_last : {T L A : Type 0} → Grammar T L A → List T
follow_last (terminal terminals) = []
follow_last (empty v) = []
follow_last (mapped f g) = follow_last g
follow_last (sequence g h) = follow_last h ++ cond (nullable h) (follow_last g) []
follow_last (alternative g h) = (follow_last g ++ follow_last h) ++ cond (nullable h) (first_set g) []
follow_last (repetition limit g) = follow_last g ++ first_set g
follow_last (labelled label g) = follow_last g

abbrev pub is_empty : {T : Type 0} → List T → Bool
is_empty [] = true
is_empty (c ∷ cs) = false

-- what is left of the text at a refusal, from the refused token on, and the label of the refusal
abbrev pub Fault : (T L : Type 0) → Type 0
Fault T L = List (Token T) × Option L

-- a value and what is left of the text, or a refusal
abbrev pub Read : (T L A : Type 0) → Type 0
Read T L A = Result (A × List (Token T)) (Fault T L)

infixl 10 ◌>>=◌
abbrev pub ◌>>=◌ : {T L A B : Type 0} → Result A (Fault T L) → (A → Result B (Fault T L)) → Result B (Fault T L)
(Ok x) >>= f = f x
(Err e) >>= f = Err e

abbrev pub steps : {T L : Type 0} → Limit L → List (Token T) → ℕ
steps unlimited ts = length ts
steps (at_most n label) ts = n

-- the value of a whole text; a token after it is refused
abbrev pub whole : {T L A : Type 0} → A × List (Token T) → Result A (Fault T L)
whole (v, []) = Ok v
whole (v, t ∷ ts) = Err (t ∷ ts, None)

module _ {T : Type 0} (number : T → ℕ) where
  -- the first token is of one of the terminals
  abbrev pub begins : List T → List (Token T) → Bool
  begins terminals [] = false
  begins terminals (t ∷ ts) = has number terminals t.terminal

  abbrev pub disjoint : List T → List T → Bool
  disjoint [] ds = true
  disjoint (c ∷ cs) ds = not (has number ds c) && disjoint cs ds

  -- One token ahead tells what to do, and each part has a text.
  abbrev pub is_predictive : {L A : Type 0} → Grammar T L A → Bool
  is_predictive (terminal terminals) = not (is_empty terminals)
  is_predictive (empty v) = true
  is_predictive (mapped f g) = is_predictive g
  is_predictive (sequence g h) = is_predictive g && (is_predictive h && disjoint (follow_last g) (first_set h))
  is_predictive (alternative g h) = (is_predictive g && is_predictive h) && (not (nullable g) && disjoint (first_set g) (first_set h))
  is_predictive (repetition limit g) = is_predictive g && (not (nullable g) && disjoint (follow_last g) (first_set g))
  is_predictive (labelled label g) = is_predictive g && not (nullable g)

  -- ---- the reader

  abbrev pub read_terminal : {L : Type 0} → List T → List (Token T) → Read T L (Token T)
  read_terminal terminals [] = Err ([], None)
  read_terminal terminals (t ∷ ts) = cond (has number terminals t.terminal) (Ok (t, ts)) (Err (t ∷ ts, None))

  -- where a repetition has as many parts as it may
  abbrev pub read_no_more : {L A : Type 0} → Limit L → List T → List (Token T) → Read T L (List A)
  read_no_more unlimited firsts ts = Ok ([], ts)
  read_no_more (at_most n label) firsts ts = cond (begins firsts ts) (Err (ts, Some label)) (Ok ([], ts))

  -- parts while one begins, at most this many more
  unfoldable pub read_parts : {L A : Type 0} → (List (Token T) → Read T L A) → List T → Limit L → ℕ → List (Token T) → Read T L (List A)
  read_parts r firsts limit zero ts = read_no_more limit firsts ts
  read_parts r firsts limit (suc n) ts =
      cond (begins firsts ts) (r ts >>= λ x. read_parts r firsts limit n x.1 >>= λ y. Ok (x.0 ∷ y.0, y.1)) (Ok ([], ts))

  abbrev pub read : {L A : Type 0} → Grammar T L A → List (Token T) → Read T L A
  read (terminal terminals) ts = read_terminal terminals ts
  read (empty v) ts = Ok (v, ts)
  read (mapped f g) ts = read g ts >>= λ x. Ok (f x.0, x.1)
  read (sequence g h) ts = read g ts >>= λ x. read h x.1 >>= λ y. Ok ((x.0, y.0), y.1)
  read (alternative g h) ts = cond (begins (first_set g) ts) (read g ts) (read h ts)
  read (repetition limit g) ts = read_parts (read g) (first_set g) limit (steps limit ts) ts
  read (labelled label g) ts = cond (begins (first_set g) ts) (read g ts) (Err (ts, Some label))

  -- the value of a whole text, or its refusal
  abbrev pub read_whole : {L A : Type 0} → Grammar T L A → List (Token T) → Result A (Fault T L)
  read_whole g ts = read g ts >>= whole
