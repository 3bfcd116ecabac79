-- The label with which the reader stops stands where it stops.
use Rattle.swreq_grammar.specs.declared.token.Token.{Token}
use Rattle.std.proofs.Common.{◌≡◌, ℕ, zero, suc, Bool, true, false, cond, List, [], ◌∷◌, ◌++◌, length, Some, None, Ok, Err, refl, sym, ap, ◌∙◌, append_assoc, arith, inl, inr, ◌⊎◌}
use Rattle.std.specs.Prelude.{◌&&◌, not}
use Rattle.std.proofs.lemmas.Bool.{and_parts, not-true}
use Rattle.swreq_grammar.specs.Grammar.{Limit, unlimited, at_most, Grammar, terminal, empty, mapped, sequence, alternative, repetition, labelled, has, Within, Parts, Matches}
use Rattle.swreq_grammar.specs.Reader.{Read, ◌>>=◌, begins, nullable, first_set, follow_last, disjoint, is_predictive, read_terminal, is_empty, steps, read_parts, read}
use Rattle.swreq_grammar.specs.Refusal.{BeginsText, IsFull, HasLabel, begins_labelled, is_well_labelled}
use Rattle.swreq_grammar.proofs.Beginning.{begins_text, no_text_begins}
use Rattle.swreq_grammar.proofs.Reading.{Shows, read_shows}

-- which label stands between the tokens before and the rest
abbrev pub Standing : (T L : Type 0) → Type 1
Standing T L = L → List (Token T) → List (Token T) → Type 0

-- a refusal has no label, or one that stands there
abbrev pub Stands : {T L A : Type 0} → Standing T L → List (Token T) → Read T L A → Type 0
Stands N ts (Ok x) = Unit {0}
Stands {T} {L} N ts (Err f) =
    (f.1 ≡ None) ⊎ ((label : L) × (pre : List (Token T)) × (f.1 ≡ Some label) × (ts ≡ pre ++ f.0) × N label pre f.0)

module _ {T L A B : Type 0} (G : List (Token T) → A → Type 0) (N O : Standing T L) (R : List (Token T) → Read T L A)
    (S : List (Token T) → Read T L B) where
  abbrev InSequence : Standing T L
  InSequence label pre rest =
      N label pre rest ⊎ ((first mid : List (Token T)) × (v : A) × (pre ≡ first ++ mid) × G first v × O label mid rest)

  second_stands : (ts p : List (Token T)) (x : A × List (Token T)) → ts ≡ p ++ x.1 → G p x.0 → (r : Read T L B) → Stands O x.1 r
      → Stands {A = A × B} InSequence ts (r >>= λ y. Ok ((x.0, y.0), y.1))
  second_stands ts p x e l (Ok y) t = tt
  second_stands ts p x e l (Err f) (inl t) = inl t
  second_stands ts p x e l (Err f) (inr t) = inr
      (t.0, p ++ t.1, t.2, e ∙ ap (λ (zs : List (Token T)). p ++ zs) t.3 ∙ sym (append_assoc p t.1 f.0), inr (p, t.1, x.0, refl, l, t.4))

  sequence_stands : (ts : List (Token T)) (r : Read T L A) → Shows G R ts r → Stands N ts r →
      ((rest : List (Token T)) → Stands O rest (S rest)) → Stands {A = A × B} InSequence ts (r >>= λ x. S x.1 >>= λ y. Ok ((x.0, y.0), y.1))
  sequence_stands ts (Ok x) s t next = second_stands ts s.0 x s.1 s.2 (S x.1) (next x.1)
  sequence_stands ts (Err f) s (inl t) next = inl t
  sequence_stands ts (Err f) s (inr t) next = inr (t.0, t.1, t.2, t.3, inl t.4)

stands_also : {T L A : Type 0} (N O : Standing T L) → ((label : L) (pre rest : List (Token T)) → N label pre rest → O label pre rest)
    → (ts : List (Token T)) (r : Read T L A) → Stands N ts r → Stands O ts r
stands_also N O k ts (Ok x) t = tt
stands_also N O k ts (Err f) (inl t) = inl t
stands_also N O k ts (Err f) (inr t) = inr (t.0, t.1, t.2, t.3, k t.0 t.1 f.0 t.4)

mapped_stands : {T L A B : Type 0} (N : Standing T L) (f : A → B) (ts : List (Token T)) (r : Read T L A) → Stands N ts r
    → Stands N ts (r >>= λ x. Ok (f x.0, x.1))
mapped_stands N f ts (Ok x) t = tt
mapped_stands N f ts (Err e) t = t

choice_stands : {T L A : Type 0} (N : Standing T L) (ts : List (Token T)) (b : Bool) (r s : Read T L A) → (b ≡ true → Stands N ts r)
    → (b ≡ false → Stands N ts s) → Stands N ts (cond b r s)
choice_stands N ts true r s h k = h refl
choice_stands N ts false r s h k = k refl

-- ---- repetition

-- the limit of a repetition with n parts left
abbrev Left : {L : Type 0} → Limit L → ℕ → Limit L
Left unlimited n = unlimited
Left (at_most l label) n = at_most n label

full_more : {L : Type 0} (limit : Limit L) (n k : ℕ) (label : L) → IsFull (Left limit n) k label → IsFull (Left limit (suc n)) (suc k) label
full_more unlimited n k label h = absurd h
full_more (at_most l wanted) n k label h = (omega arith, h.1)

within_more : {L : Type 0} (limit : Limit L) (n k : ℕ) → Within (Left limit n) (suc k) → Within (Left limit (suc n)) (suc (suc k))
within_more unlimited n k h = tt
within_more (at_most l wanted) n k h = omega arith

within_first : {L : Type 0} (limit : Limit L) (n : ℕ) → Within (Left limit (suc n)) 1
within_first unlimited n = tt
within_first (at_most l wanted) n = omega arith

module _ {T L A : Type 0} (number : T → ℕ) (G : List (Token T) → A → Type 0) (N : Standing T L) (R : List (Token T) → Read T L A)
    (firsts : List T) (One : List (Token T) → Type 0) (one : (ts : List (Token T)) → begins number firsts ts ≡ true → One ts) where
  abbrev InRepetition : Limit L → Standing T L
  InRepetition limit label pre rest =
      ((first mid : List (Token T)) × (vs : List A) × (pre ≡ first ++ mid) × Parts G first vs × N label mid rest
      × Within limit (suc (length vs)))
      ⊎ ((vs : List A) × Parts G pre vs × IsFull limit (length vs) label × One rest)

  last_stands : (limit : Limit L) (ts : List (Token T)) → Stands (InRepetition (Left limit 0)) ts (read_parts number R firsts limit 0 ts)
  unfolding read_parts
  last_stands unlimited ts = tt
  last_stands (at_most l label) ts = choice_stands (InRepetition (at_most 0 label)) ts (begins number firsts ts) (Err (ts, Some label))
      (Ok ([], ts)) (λ b. inr (label, [], refl, refl, inr ([], refl, (refl, refl), one ts b))) (λ b. tt)

  later_stands : (limit : Limit L) (n : ℕ) (ts p : List (Token T)) (x : A × List (Token T))
      → ts ≡ p ++ x.1 → G p x.0 → (r : Read T L (List A)) → Stands (InRepetition (Left limit n)) x.1 r
      → Stands (InRepetition (Left limit (suc n))) ts (r >>= λ y. Ok (x.0 ∷ y.0, y.1))
  later_stands limit n ts p x e l (Ok y) t = tt
  later_stands limit n ts p x e l (Err f) (inl t) = inl t
  later_stands limit n ts p x e l (Err f) (inr t) =
      inr (t.0, p ++ t.1, t.2, e ∙ ap (λ (zs : List (Token T)). p ++ zs) t.3 ∙ sym (append_assoc p t.1 f.0), go t.4)
    where
      go : InRepetition (Left limit n) t.0 t.1 f.0 → InRepetition (Left limit (suc n)) t.0 (p ++ t.1) f.0
      go (inl k) = inl (
        p ++ k.0,
        k.1,
        x.0 ∷ k.2,
        ap (λ (zs : List (Token T)). p ++ zs) k.3 ∙ sym (append_assoc p k.0 k.1),
        (p, k.0, refl, l, k.4),
        k.5,
        within_more limit n (length k.2) k.6,
      )
      go (inr k) = inr (x.0 ∷ k.0, (p, t.1, refl, l, k.1), full_more limit n (length k.0) t.0 k.2, k.3)

  first_stands : (limit : Limit L) (n : ℕ) (ts : List (Token T)) (r : Read T L A) → Shows G R ts r → Stands N ts r
      → ((rest : List (Token T)) → Stands (InRepetition (Left limit n)) rest (read_parts number R firsts limit n rest)) →
      Stands (InRepetition (Left limit (suc n))) ts (r >>= λ x. read_parts number R firsts limit n x.1 >>= λ y. Ok (x.0 ∷ y.0, y.1))
  first_stands limit n ts (Ok x) s t next = later_stands limit n ts s.0 x s.1 s.2 (read_parts number R firsts limit n x.1) (next x.1)
  first_stands limit n ts (Err f) s (inl t) next = inl t
  first_stands limit n ts (Err f) s (inr t) next = inr (t.0, t.1, t.2, t.3, inl ([], t.1, [], refl, refl, t.4, within_first limit n))

  parts_stand : (limit : Limit L) → ((ts : List (Token T)) → Shows G R ts (R ts)) → ((ts : List (Token T)) → Stands N ts (R ts))
      → (n : ℕ) (ts : List (Token T)) → Stands (InRepetition (Left limit n)) ts (read_parts number R firsts limit n ts)
  unfolding read_parts
  parts_stand limit s t zero ts = last_stands limit ts
  parts_stand limit s t (suc n) ts = choice_stands (InRepetition (Left limit (suc n))) ts (begins number firsts ts) _ (Ok ([], ts))
      (λ b. first_stands limit n ts (R ts) (s ts) (t ts) (parts_stand limit s t n)) (λ b. tt)

-- ---- the reader

module _ {T : Type 0} (number : T → ℕ) where
  abbrev pub Labels : {L A : Type 0} → Grammar T L A → Standing T L
  Labels g label pre rest = HasLabel number label g pre rest

  terminal_stands : (L : Type 0) (N : Standing T L) (terminals : List T) (ts : List (Token T))
      → Stands N ts (read_terminal number terminals ts)
  terminal_stands L N terminals [] = inl refl
  terminal_stands L N terminals (t ∷ ts) =
      choice_stands N (t ∷ ts) (has number terminals t.terminal) (Ok (t, ts)) (Err (t ∷ ts, None)) (λ b. tt) (λ b. inl refl)

  in_repetition : {L A : Type 0} (g : Grammar T L A) (one : (ts : List (Token T)) → begins number (first_set g) ts ≡ true
      → BeginsText number g ts) (limit : Limit L) (ts : List (Token T)) (label : L) (pre rest : List (Token T)) →
      InRepetition number (Matches number g) (Labels g) (read number g) (first_set g) (BeginsText number g) one
      (Left limit (steps limit ts)) label pre rest → HasLabel number label (repetition limit g) pre rest
  in_repetition g one unlimited ts label pre rest h = h
  in_repetition g one (at_most n wanted) ts label pre rest h = h

  pub read_stands : {L A : Type 0} (g : Grammar T L A) → is_predictive number g ≡ true → is_well_labelled g ≡ true → (ts : List (Token T))
      → Stands (Labels g) ts (read number g ts)
  read_stands {L} (terminal terminals) p q ts = terminal_stands L (Labels {L = L} (terminal terminals)) terminals ts
  read_stands (empty v) p q ts = tt
  read_stands (mapped f g) p q ts = mapped_stands (Labels g) f ts (read number g ts) (read_stands g p q ts)
  read_stands (sequence g h) p q ts =
      let a = and_parts (is_predictive number g) (is_predictive number h && disjoint number (follow_last g) (first_set h)) p in
      let b = and_parts (is_predictive number h) (disjoint number (follow_last g) (first_set h)) a.1 in
      let c = and_parts (is_well_labelled g) (is_well_labelled h && cond (begins_labelled h) (is_empty (follow_last g)) true) q in
      let d = and_parts (is_well_labelled h) (cond (begins_labelled h) (is_empty (follow_last g)) true) c.1 in
      sequence_stands (Matches number g) (Labels g) (Labels h) (read number g) (read number h) ts (read number g ts)
      (read_shows number g a.0 ts) (read_stands g a.0 c.0 ts) (read_stands h b.0 d.0)
  read_stands (alternative g h) p q ts =
      let a =
      and_parts (is_predictive number g && is_predictive number h) (not (nullable g) && disjoint number (first_set g) (first_set h)) p in
      let b = and_parts (is_predictive number g) (is_predictive number h) a.0 in
      let c = and_parts (is_well_labelled g && is_well_labelled h) (not (begins_labelled g) && not (begins_labelled h)) q in
      let d = and_parts (is_well_labelled g) (is_well_labelled h) c.0 in
      choice_stands (Labels (alternative g h)) ts (begins number (first_set g) ts) (read number g ts) (read number h ts)
      (λ k. stands_also (Labels g) (Labels (alternative g h)) (λ label pre rest l. inl l) ts (read number g ts) (read_stands g b.0 d.0 ts))
      (λ k. stands_also (Labels h) (Labels (alternative g h)) (λ label pre rest l. inr l) ts (read number h ts) (read_stands h b.1 d.1 ts))
  read_stands (repetition limit g) p q ts =
      let a = and_parts (is_predictive number g) (not (nullable g) && disjoint number (follow_last g) (first_set g)) p in
      let c = and_parts (is_well_labelled g) (not (begins_labelled g)) q in
      let one = begins_text number g a.0 (not-true (begins_labelled g) c.1) in
      stands_also _ (Labels (repetition limit g)) (in_repetition g one limit ts) ts (read number (repetition limit g) ts)
      (parts_stand number (Matches number g) (Labels g) (read number g) (first_set g) (BeginsText number g) one limit
      (read_shows number g a.0) (read_stands g a.0 c.0) (steps limit ts) ts)
  read_stands (labelled label g) p q ts =
      let a = and_parts (is_predictive number g) (not (nullable g)) p in
      let c = and_parts (is_well_labelled g) (not (begins_labelled g)) q in
      choice_stands (Labels (labelled label g)) ts (begins number (first_set g) ts) (read number g ts) (Err (ts, Some label))
      (λ k. stands_also (Labels g) (Labels (labelled label g)) (λ other pre rest l. inr l) ts (read number g ts) (read_stands g a.0 c.0 ts))
      (λ k. inr (label, [], refl, refl, inl (refl, refl, no_text_begins number g ts k)))
