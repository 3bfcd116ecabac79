-- Keys, as they are collected.
use Rattle.std.proofs.Common.{◌≡◌, ◌⊎◌, inl, inr, ℕ, zero, suc, ◌+◌, ◌<◌, ◌≤◌, List, [], ◌∷◌, ◌++◌, length, get_or, sym, ap, subst, arith, Some}
use Rattle.std.specs.List.{slice_get}
use Rattle.std.proofs.lemmas.Bool.{cases_eq}
use Rattle.std.proofs.lemmas.Option.{slice_get_within, slice_get-get_or, get_or_from_slice_get}
use Rattle.swreq_rule.specs.swreq_word.declared.symbols.Symbol.{Symbol}
use Rattle.swreq_trie.specs.declared.trie.Entry.{Entry}
use Rattle.swreq_trie.specs.Marks.{Holds}
use Rattle.swreq_trie.specs.Places.{IsOnto, IsFrom, IsOwn, IsPlace}
use Rattle.swreq_trie.specs.Keys.{Gains, IsOwnKey, place_of, key_of}
use Rattle.swreq_rule.proofs.swreq_lemmas.Elements.{get_cases}
use Rattle.swreq_trie.proofs.Marks.{holds_last, holds_more}

-- nothing was to be added
pub gains_none : (Gained : ℕ × ℕ × ℕ → Type 0) (keys : List (ℕ × ℕ × ℕ)) → ((key : ℕ × ℕ × ℕ) → Gained key → ⊥) → Gains Gained keys keys
gains_none Gained keys none = record { kept = λ key h. h; only = λ key h. inl h; all = λ key w. absurd (none key w) }

-- one key was
pub gains_one : (key : ℕ × ℕ × ℕ) (old new : List (ℕ × ℕ × ℕ)) → new ≡ old ++ key ∷ [] → Gains (λ k. k ≡ key) old new
gains_one key old new e = record {
  kept = λ k h. subst (λ x. Holds x k) (sym e) (holds_more old (key ∷ []) k h);
  only = λ k h. (let g = subst (λ x. Holds x k) e h in elim (get_cases old key g.0 k g.1) [ inl i ↦ inl (g.0, i) | inr i ↦ inr i.1 ]);
  all = λ k w. subst (λ x. Holds new x) (sym w) (subst (λ x. Holds x key) (sym e) (holds_last old key));
}

-- the same in other words
pub gains_like : (Gained Other : ℕ × ℕ × ℕ → Type 0) (old new : List (ℕ × ℕ × ℕ)) → ((key : ℕ × ℕ × ℕ) → Gained key → Other key)
    → ((key : ℕ × ℕ × ℕ) → Other key → Gained key) → Gains Gained old new → Gains Other old new
gains_like Gained Other old new there back g = record {
  kept = g.kept;
  only = λ key h. elim (g.only key h) [ inl i ↦ inl i | inr i ↦ inr (there key i) ];
  all = λ key w. g.all key (back key w);
}

-- some were, and then others
pub gains_on : (Gained Other Both : ℕ × ℕ × ℕ → Type 0) (a b c : List (ℕ × ℕ × ℕ)) → ((key : ℕ × ℕ × ℕ) → Gained key → Both key)
    → ((key : ℕ × ℕ × ℕ) → Other key → Both key) → ((key : ℕ × ℕ × ℕ) → Both key → Gained key ⊎ Other key)
    → Gains Gained a b → Gains Other b c
    → Gains Both a c
gains_on Gained Other Both a b c first second which f g = record {
  kept = λ key h. g.kept key (f.kept key h);
  only = λ key h.
      elim (g.only key h) [ inl i ↦ elim (f.only key i) [ inl j ↦ inl j | inr j ↦ inr (first key j) ] | inr i ↦ inr (second key i) ];
  all = λ key w. elim (which key w) [ inl i ↦ g.kept key (f.all key i) | inr i ↦ g.all key i ];
}

-- the keys of the elements of a list, one after the other
module _ {A : Type 0} (xs : List A) (Gained : A → ℕ × ℕ × ℕ → Type 0) where
  abbrev pub GainedBelow : ℕ → ℕ × ℕ × ℕ → Type 0
  GainedBelow i key = (n : ℕ) × (x : A) × (n < i) × (slice_get xs n ≡ Some x) × Gained x key

  pub gains_start : (keys : List (ℕ × ℕ × ℕ)) → Gains (GainedBelow 0) keys keys
  gains_start keys = gains_none (GainedBelow 0) keys (λ key w. (let l = w.2 in omega (arith, l)))

  pub gains_more : (i : ℕ) (d : A) → i < length xs → (a b c : List (ℕ × ℕ × ℕ)) → Gains (GainedBelow i) a b
      → Gains (Gained (get_or xs i d)) b c
      → Gains (GainedBelow (i + 1)) a c
  gains_more i d lt a b c = gains_on (GainedBelow i) (Gained (get_or xs i d)) (GainedBelow (i + 1)) a b c
      (λ key w. (w.0, w.1, (let l = w.2 in omega (arith, l)), w.3, w.4))
      (λ key w. (i, get_or xs i d, omega arith, slice_get-get_or xs i d lt, w))
      (λ key w. elim (cases_eq w.0 i) [
        | inl e ↦ inr (let f : slice_get xs i ≡ Some w.1 = subst (λ n. slice_get xs n ≡ Some w.1) e w.3 in
            subst (λ x. Gained x key) (sym (get_or_from_slice_get xs i w.1 d f)) w.4)
        | inr e ↦ inl (w.0, w.1, (let l = w.2 in omega (arith, l, e)), w.3, w.4)
      ])

  pub gains_all : (i : ℕ) → length xs ≤ i → (a b : List (ℕ × ℕ × ℕ)) → Gains (GainedBelow i) a b
      → Gains (λ key. (x : A) × Holds xs x × Gained x key) a b
  gains_all i le a b = gains_like (GainedBelow i) (λ key. (x : A) × Holds xs x × Gained x key) a b
      (λ key w. (w.1, (w.0, w.3), w.4))
      (λ key w. (w.1.0, w.0, (let l = slice_get_within xs w.1.0 w.0 w.1.1 in omega (arith, l, le)), w.1.1, w.2))

-- the keys of places, one after the other
module _ (Gained : ℕ → ℕ × ℕ × ℕ → Type 0) where
  abbrev pub GainedAtBelow : ℕ → ℕ × ℕ × ℕ → Type 0
  GainedAtBelow i key = (at : ℕ) × (at < i) × Gained at key

  pub gains_at_start : (keys : List (ℕ × ℕ × ℕ)) → Gains (GainedAtBelow 0) keys keys
  gains_at_start keys = gains_none (GainedAtBelow 0) keys (λ key w. (let l = w.1 in omega (arith, l)))

  pub gains_at_more : (i : ℕ) (a b c : List (ℕ × ℕ × ℕ)) → Gains (GainedAtBelow i) a b → Gains (Gained i) b c
      → Gains (GainedAtBelow (i + 1)) a c
  gains_at_more i a b c = gains_on (GainedAtBelow i) (Gained i) (GainedAtBelow (i + 1)) a b c
      (λ key w. (w.0, (let l = w.1 in omega (arith, l)), w.2))
      (λ key w. (i, omega arith, w))
      (λ key w. elim (cases_eq w.0 i) [
        | inl e ↦ inr (subst (λ n. Gained n key) e w.2)
        | inr e ↦ inl (w.0, (let l = w.1 in omega (arith, l, e)), w.2)
      ])

-- all kinds of places
module _ (stored : List Entry) (left : List Symbol) (number : ℕ)
    (within : (k at : ℕ) (key : ℕ × ℕ × ℕ) → IsFrom stored left number k at (place_of key) → at < length left)
    (own_within : (at : ℕ) (key : ℕ × ℕ × ℕ) → IsOwnKey left number at key → at < length left) where
  abbrev Begins : ℕ × ℕ × ℕ → Type 0
  Begins key = (k : ℕ) × IsOnto stored left number k 0 (place_of key)

  abbrev Insides : ℕ × ℕ × ℕ → Type 0
  Insides key = (k : ℕ) × (at : ℕ) × (0 < at) × IsOnto stored left number k at (place_of key)

  abbrev Onto : ℕ × ℕ × ℕ → Type 0
  Onto key = (k : ℕ) × (at : ℕ) × IsOnto stored left number k at (place_of key)

  abbrev From : ℕ × ℕ × ℕ → Type 0
  From key = (at : ℕ) × (at < length left) × ((k : ℕ) × IsFrom stored left number k at (place_of key))

  abbrev Own : ℕ × ℕ × ℕ → Type 0
  Own key = (at : ℕ) × (at < length left) × IsOwnKey left number at key

  begins_or_insides : (key : ℕ × ℕ × ℕ) (k at : ℕ) → IsOnto stored left number k at (place_of key) → Begins key ⊎ Insides key
  begins_or_insides key k zero o = inl (k, o)
  begins_or_insides key k (suc at) o = inr (k, suc at, omega arith, o)

  own_key : (key : ℕ × ℕ × ℕ) (at : ℕ) → IsOwn left number at (place_of key) → IsOwnKey left number at key
  own_key key at o = (o.overlap, ap key_of o.place_is)

  pub all_gained : (o a b c d : List (ℕ × ℕ × ℕ)) → Gains Begins o a → Gains Insides a b → Gains From b c → Gains Own c d
      → Gains (λ key. IsPlace stored left number (place_of key)) o d
  all_gained old a b c d f g h i =
      gains_on Onto (λ key. From key ⊎ Own key) (λ key. IsPlace stored left number (place_of key)) old b d
      (λ key o. inl o)
      (λ key w. elim w [
        | inl o ↦ inr (inl (o.2.0, o.0, o.2.1))
        | inr o ↦ inr (inr (o.0, record { overlap = o.2.0; place_is = ap place_of o.2.1 }))
      ])
      (λ key w. elim w [
        | inl o ↦ inl o
        | inr q ↦ inr (elim q [
          | inl o ↦ inl (o.1, within o.0 o.1 key o.2, (o.0, o.2))
          | inr o ↦ inr (o.0, own_within o.0 key (own_key key o.0 o.1), own_key key o.0 o.1)
        ])
      ])
      (gains_on Begins Insides Onto old a b (λ key o. (o.0, 0, o.1)) (λ key o. (o.0, o.1, o.3))
      (λ key o. begins_or_insides key o.0 o.1 o.2) f g)
      (gains_on From Own (λ key. From key ⊎ Own key) b c d (λ key o. inl o) (λ key o. inr o) (λ key w. w) h i)
