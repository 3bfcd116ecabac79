-- Viable prefixes, the refused token of a text outside a grammar, and the label of the refusal.
use Rattle.std.specs.Prelude.{◌≡◌, ℕ, suc, Bool, true, false, ◌&&◌, ◌||◌, not, cond, List, [], ◌∷◌, ◌++◌, length, Option, Some, None, ◌⊎◌, nat_eq}
use Rattle.swreq_grammar.specs.declared.token.Token.{Token}
use Rattle.swreq_grammar.specs.Grammar.{Limit, unlimited, at_most, Grammar, terminal, empty, mapped, sequence, alternative, repetition, labelled, Within, Parts, Matches}
use Rattle.swreq_grammar.specs.Reader.{Fault, nullable, follow_last, is_empty}

-- a repetition may have this many parts and no more; one part more is refused with the label
abbrev pub IsFull : {L : Type 0} → Limit L → ℕ → L → Type 0
IsFull unlimited n label = ⊥
IsFull (at_most limit wanted) n label = (n ≡ limit) × (wanted ≡ label)

module _ {T : Type 0} (number : T → ℕ) where
  -- A viable prefix: some text of the grammar begins with the tokens.
  abbrev pub Viable : {L A : Type 0} → Grammar T L A → List (Token T) → Type 0
  Viable {A} g ts = (more : List (Token T)) × (v : A) × Matches number g (ts ++ more) v

  -- Neither the tokens and the next one begin a text of the grammar, nor are the tokens, if they are all, a text of it.
  abbrev pub IsStuck : {L A : Type 0} → Grammar T L A → List (Token T) → List (Token T) → Type 0
  IsStuck {A} g before [] = (v : A) → Matches number g before v → ⊥
  IsStuck g before (t ∷ rest) = Viable g (before ++ t ∷ []) → ⊥

  -- The first token of the rest is the refused one: it is the first token such that no text of the grammar begins with
  -- the tokens up to and with it. Without a rest, some text of the grammar begins with all the tokens, and they are not a text of it.
  abbrev pub RefusedAt : {L A : Type 0} → Grammar T L A → (before rest : List (Token T)) → Type 0
  RefusedAt g before rest = Viable g before × IsStuck g before rest

  -- ---- the label of a refusal

  -- Some text of the grammar begins with the first of the tokens.
  abbrev pub BeginsText : {L A : Type 0} → Grammar T L A → List (Token T) → Type 0
  BeginsText g [] = ⊥
  BeginsText g (t ∷ ts) = Viable g (t ∷ [])

  -- After the tokens stands a part with the label, and the rest begins no text of it; or a repetition is full there, and
  -- the rest begins a text of one part more.
  abbrev pub HasLabel : {L A : Type 0} → L → Grammar T L A → (before rest : List (Token T)) → Type 0
  HasLabel label (terminal terminals) before rest = ⊥
  HasLabel label (empty v) before rest = ⊥
  HasLabel label (mapped f g) before rest = HasLabel label g before rest
  HasLabel label (sequence {A} g h) before rest =
      HasLabel label g before rest
      ⊎ ((first mid : List (Token T)) × (v : A) × (before ≡ first ++ mid) × Matches number g first v × HasLabel label h mid rest)
  HasLabel label (alternative g h) before rest = HasLabel label g before rest ⊎ HasLabel label h before rest
  HasLabel label (repetition {A} limit g) before rest =
      ((first mid : List (Token T)) × (vs : List A) × (before ≡ first ++ mid) × Parts (Matches number g) first vs
      × HasLabel label g mid rest × Within limit (suc (length vs)))
      ⊎ ((vs : List A) × Parts (Matches number g) before vs × IsFull limit (length vs) label × BeginsText g rest)
  HasLabel label (labelled other g) before rest = ((before ≡ []) × (other ≡ label) × ¬ (BeginsText g rest)) ⊎ HasLabel label g before rest

  -- the one label that a refusal has there, or none where it has none
  abbrev pub LabelAt : {L A : Type 0} → Grammar T L A → (before rest : List (Token T)) → Option L → Type 0
  LabelAt {L = L} g before rest None = (label : L) → HasLabel label g before rest → ⊥
  LabelAt {L = L} g before rest (Some label) = HasLabel label g before rest × ((other : L) → HasLabel other g before rest → other ≡ label)

  -- The text is refused: what is left from the refused token on, and the label of the refusal.
  abbrev pub Refuses : {L A : Type 0} → Grammar T L A → List (Token T) → Fault T L → Type 0
  Refuses g ts fault = (before : List (Token T)) × (ts ≡ before ++ fault.0) × RefusedAt g before fault.0 × LabelAt g before fault.0 fault.1

-- ---- grammars whose labels do not change how a text is read

-- a label may stand before any token
abbrev pub begins_labelled : {T L A : Type 0} → Grammar T L A → Bool
begins_labelled (terminal terminals) = false
begins_labelled (empty v) = false
begins_labelled (mapped f g) = begins_labelled g
begins_labelled (sequence g h) = begins_labelled g || (nullable g && begins_labelled h)
begins_labelled (alternative g h) = begins_labelled g || begins_labelled h
begins_labelled (repetition unlimited g) = begins_labelled g
begins_labelled (repetition (at_most n label) g) = begins_labelled g || nat_eq n 0
begins_labelled (labelled label g) = true

-- each label stands where only one thing may come next
abbrev pub is_well_labelled : {T L A : Type 0} → Grammar T L A → Bool
is_well_labelled (terminal terminals) = true
is_well_labelled (empty v) = true
is_well_labelled (mapped f g) = is_well_labelled g
is_well_labelled (sequence g h) = is_well_labelled g && (is_well_labelled h && cond (begins_labelled h) (is_empty (follow_last g)) true)
is_well_labelled (alternative g h) = (is_well_labelled g && is_well_labelled h) && (not (begins_labelled g) && not (begins_labelled h))
is_well_labelled (repetition limit g) = is_well_labelled g && not (begins_labelled g)
is_well_labelled (labelled label g) = is_well_labelled g && not (begins_labelled g)
