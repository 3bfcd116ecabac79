-- What the reader finds in a text, and how much of the text it looks at.
use Rattle.swreq_grammar.specs.declared.token.Token.{Token}
use Rattle.std.proofs.Common.{◌≡◌, ℕ, zero, suc, ◌≤◌, ◌<◌, Bool, true, false, cond, List, [], ◌∷◌, ◌++◌, length, Some, None, Ok, Err, refl, sym, ap, subst, ◌∙◌, append_assoc, arith, inl, inr}
use Rattle.std.specs.Prelude.{◌&&◌, not}
use Rattle.std.proofs.lemmas.Bool.{and_parts, not-true}
use Rattle.std.proofs.lemmas.List.{append-nil, length-append}
use Rattle.swreq_grammar.specs.Grammar.{Limit, unlimited, at_most, Grammar, terminal, empty, mapped, sequence, alternative, repetition, labelled, has, Within, Parts, Matches}
use Rattle.swreq_grammar.specs.Reader.{Read, ◌>>=◌, begins, nullable, first_set, follow_last, disjoint, is_predictive, read_terminal, steps, read_parts, read}
use Rattle.swreq_grammar.specs.Refusal.{Viable}
use Rattle.swreq_grammar.proofs.Repeating.{goes, stops}
use Rattle.swreq_grammar.proofs.Sets.{nullable_of, text_of}

-- ---- what the reader finds, and what it looks at

-- another rest that begins with the same token, or ends too
abbrev pub Alike : {T : Type 0} → List (Token T) → List (Token T) → Type 0
Alike [] more = more ≡ []
Alike {T} (t ∷ rest) more = (tail : List (Token T)) × (more ≡ t ∷ tail)

pub alike_append : {T : Type 0} (front rest more : List (Token T)) → Alike rest more → Alike (front ++ rest) (front ++ more)
alike_append [] rest more h = h
alike_append (t ∷ front) rest more h = (front ++ more, refl)

-- What was read is a text and its value, or the tokens before the refused one begin a text. It rests on these tokens and the next one
-- alone.
abbrev pub Shows : {T L A : Type 0} → (List (Token T) → A → Type 0) → (List (Token T) → Read T L A) → List (Token T) → Read T L A → Type 0
Shows {T} G R ts (Ok x) =
    (pre : List (Token T)) × (ts ≡ pre ++ x.1) × G pre x.0 × ((more : List (Token T)) → Alike x.1 more → R (pre ++ more) ≡ Ok (x.0, more))
Shows {T} {A = A} G R ts (Err f) = (pre : List (Token T)) × (ts ≡ pre ++ f.0) × ((more : List (Token T)) × (v : A) × G (pre ++ more) v)
    × ((more : List (Token T)) → Alike f.0 more → R (pre ++ more) ≡ Err (more, f.1))

module _ {T L A B : Type 0} (G : List (Token T) → A → Type 0) (H : List (Token T) → B → Type 0) (R : List (Token T) → Read T L A)
    (S : List (Token T) → Read T L B) where
  abbrev BothG : List (Token T) → A × B → Type 0
  BothG ts p = (first rest : List (Token T)) × (ts ≡ first ++ rest) × G first p.0 × H rest p.1

  abbrev BothR : List (Token T) → Read T L (A × B)
  BothR ts = R ts >>= λ x. S x.1 >>= λ y. Ok ((x.0, y.0), y.1)

  both_second : (ts pre : List (Token T)) (x : A × List (Token T)) → ts ≡ pre ++ x.1 → G pre x.0
      → ((more : List (Token T)) → Alike x.1 more → R (pre ++ more) ≡ Ok (x.0, more)) →
      (r : Read T L B) → Shows H S x.1 r → Shows BothG BothR ts (r >>= λ y. Ok ((x.0, y.0), y.1))
  both_second ts pre x e l loc (Ok y) s =
      let local : (more : List (Token T)) → Alike y.1 more → BothR ((pre ++ s.0) ++ more) ≡ Ok ((x.0, y.0), more) = λ more al.
      let al2 : Alike x.1 (s.0 ++ more) = rw s.1 (alike_append s.0 y.1 more al) in
      rw (append_assoc pre s.0 more, loc (s.0 ++ more) al2, s.3 more al) refl in
      (pre ++ s.0, e ∙ ap (λ (zs : List (Token T)). pre ++ zs) s.1 ∙ sym (append_assoc pre s.0 y.1), (pre, s.0, refl, l, s.2), local)
  both_second ts pre x e l loc (Err f) s =
      let local : (more : List (Token T)) → Alike f.0 more → BothR ((pre ++ s.0) ++ more) ≡ Err (more, f.1) = λ more al.
      let al2 : Alike x.1 (s.0 ++ more) = rw s.1 (alike_append s.0 f.0 more al) in
      rw (append_assoc pre s.0 more, loc (s.0 ++ more) al2, s.3 more al) refl in (
        pre ++ s.0,
        e ∙ ap (λ (zs : List (Token T)). pre ++ zs) s.1 ∙ sym (append_assoc pre s.0 f.0),
        (s.2.0, (x.0, s.2.1), (pre, s.0 ++ s.2.0, append_assoc pre s.0 s.2.0, l, s.2.2)),
        local,
      )

  both_first : (q : List (Token T)) (w : B) → H q w → (ts : List (Token T)) (r : Read T L A) → Shows G R ts r
      → ((rest : List (Token T)) → Shows H S rest (S rest)) →
      Shows BothG BothR ts (r >>= λ x. S x.1 >>= λ y. Ok ((x.0, y.0), y.1))
  both_first q w m ts (Ok x) s next = both_second ts s.0 x s.1 s.2 s.3 (S x.1) (next x.1)
  both_first q w m ts (Err f) s next =
      (s.0, s.1, (s.2.0 ++ q, (s.2.1, w), (s.0 ++ s.2.0, q, sym (append_assoc s.0 s.2.0 q), s.2.2, m)), λ more al. rw (s.3 more al) refl)

module _ {T : Type 0} (number : T → ℕ) where
  pub alike_begins : (firsts : List T) (rest more : List (Token T)) → Alike rest more
      → begins number firsts more ≡ begins number firsts rest
  alike_begins firsts [] more h = rw h refl
  alike_begins firsts (t ∷ rest) more h = rw h.1 refl

  -- ---- repetition

  abbrev pub Bound : {L : Type 0} → Limit L → ℕ → ℕ → Type 0
  Bound unlimited n k = Unit {0}
  Bound (at_most l label) n k = k ≤ n

  abbrev pub Enough : {L : Type 0} → Limit L → ℕ → List (Token T) → Type 0
  Enough unlimited n ts = length ts ≤ n
  Enough (at_most l label) n ts = Unit {0}

  -- m steps read this text as n steps read the other
  abbrev pub Fuel : {L : Type 0} → Limit L → ℕ → ℕ → List (Token T) → Type 0
  Fuel unlimited n m ts = length ts ≤ m
  Fuel (at_most l label) n m ts = m ≡ n

  pub bound_none : {L : Type 0} (limit : Limit L) (n : ℕ) → Bound limit n 0
  bound_none unlimited n = tt
  bound_none (at_most l label) n = omega arith

  pub bound_one : {L : Type 0} (limit : Limit L) (n : ℕ) → Bound limit (suc n) 1
  bound_one unlimited n = tt
  bound_one (at_most l label) n = omega arith

  pub bound_more : {L : Type 0} (limit : Limit L) (n k : ℕ) → Bound limit n k → Bound limit (suc n) (suc k)
  bound_more unlimited n k h = tt
  bound_more (at_most l label) n k h = omega arith

  pub enough_less : {L : Type 0} (limit : Limit L) (n : ℕ) (ts rest : List (Token T)) → length rest < length ts
      → Enough limit (suc n) ts → Enough limit n rest
  enough_less unlimited n ts rest h e = omega arith
  enough_less (at_most l label) n ts rest h e = tt

  pub fuel_step : {L : Type 0} (limit : Limit L) (n m : ℕ) (ts : List (Token T)) (rest : List (Token T)) → length rest < length ts
      → Fuel limit (suc n) m ts → (k : ℕ) × (m ≡ suc k) × Fuel limit n k rest
  fuel_step unlimited n zero ts rest h f = absurd (omega arith)
  fuel_step unlimited n (suc m) ts rest h f = (m, refl, omega arith)
  fuel_step (at_most l label) n m ts rest h f = (n, f, refl)

  pub shorter : (t : Token T) (p q more : List (Token T)) → length (q ++ more) < length (((t ∷ p) ++ q) ++ more)
  shorter t p q more = omega (arith, length-append p (q ++ more), ap length (append_assoc p q more))

  module _ {L A : Type 0} (G : List (Token T) → A → Type 0) (R : List (Token T) → Read T L A) (firsts : List T) where
    pub parts_long : (l m : ℕ) (label : L) (ts : List (Token T)) → m ≡ 0 → begins number firsts ts ≡ true
        → read_parts number R firsts (at_most l label) m ts ≡ Err (ts, Some label)
    unfolding read_parts
    parts_long l m label ts z e = rw (z, e) refl

    parts_on : (limit : Limit L) (m k : ℕ) (t : Token T) (p q more : List (Token T)) (v : A) (r : Read T L (List A)) → m ≡ suc k
        → has number firsts t.terminal ≡ true → R ((t ∷ p) ++ (q ++ more)) ≡ Ok (v, q ++ more) →
        read_parts number R firsts limit k (q ++ more) ≡ r
        → read_parts number R firsts limit m (((t ∷ p) ++ q) ++ more) ≡ (r >>= λ y. Ok (v ∷ y.0, y.1))
    parts_on limit m k t p q more v r z h e f =
        goes number R firsts limit m k (((t ∷ p) ++ q) ++ more) z h ∙ rw (append_assoc (t ∷ p) q more, e, f) refl

    fuel_some : (limit : Limit L) (n m : ℕ) (ts : List (Token T)) → begins number firsts ts ≡ true
        → Fuel limit (suc n) m ts → (k : ℕ) × (m ≡ suc k)
    fuel_some limit n m [] b f = absurd cc
    fuel_some unlimited n zero (t ∷ ts) b f = absurd (omega arith)
    fuel_some unlimited n (suc m) (t ∷ ts) b f = (m, refl)
    fuel_some (at_most l label) n m (t ∷ ts) b f = (n, f)

    abbrev pub ShowsParts : Limit L → ℕ → List (Token T) → Read T L (List A) → Type 0
    ShowsParts limit n ts (Ok x) =
        (pre : List (Token T)) × (ts ≡ pre ++ x.1) × Parts G pre x.0 × Bound limit n (length x.0) × ((more : List (Token T)) (m : ℕ)
        → Alike x.1 more → Fuel limit n m (pre ++ more) → read_parts number R firsts limit m (pre ++ more) ≡ Ok (x.0, more))
    ShowsParts limit n ts (Err f) = (pre : List (Token T)) × (ts ≡ pre ++ f.0)
        × ((more : List (Token T)) × (vs : List A) × Parts G (pre ++ more) vs × Bound limit n (length vs)) × ((more : List (Token T))
        (m : ℕ) → Alike f.0 more → Fuel limit n m (pre ++ more) → read_parts number R firsts limit m (pre ++ more) ≡ Err (more, f.1))

    parts_stop : (limit : Limit L) (n : ℕ) (ts : List (Token T)) → begins number firsts ts ≡ false → ShowsParts limit n ts (Ok ([], ts))
    parts_stop limit n ts e =
        ([], refl, refl, bound_none limit n, λ more m al f. stops number R firsts limit m more (alike_begins firsts ts more al ∙ e))

    parts_last : (limit : Limit L) (ts : List (Token T)) → Enough limit 0 ts → (b : Bool) → begins number firsts ts ≡ b
        → ShowsParts limit 0 ts (read_parts number R firsts limit 0 ts)
    unfolding read_parts
    parts_last unlimited [] en b e = parts_stop unlimited 0 [] refl
    parts_last unlimited (t ∷ ts) en b e = absurd (omega arith)
    parts_last (at_most l label) ts en true e =
        rw e ([], refl, ([], [], refl, omega arith), λ more m al f. parts_long l m label more f (alike_begins firsts ts more al ∙ e))
    parts_last (at_most l label) ts en false e = rw e (parts_stop (at_most l label) 0 ts e)

    head_has : (ts rest : List (Token T)) (t : Token T) → ts ≡ t ∷ rest → begins number firsts ts ≡ true
        → has number firsts t.terminal ≡ true
    head_has ts rest t e b = rw e at b

    parts_second : (limit : Limit L) (n : ℕ) (t : Token T) (p : List (Token T)) (x : A × List (Token T)) → has number firsts t.terminal
        ≡ true → G (t ∷ p) x.0 → ((more : List (Token T)) → Alike x.1 more → R ((t ∷ p) ++ more) ≡ Ok (x.0, more)) →
        (r : Read T L (List A)) → ShowsParts limit n x.1 r → ShowsParts limit (suc n) ((t ∷ p) ++ x.1) (r >>= λ y. Ok (x.0 ∷ y.0, y.1))
    parts_second limit n t p x h l loc (Ok y) s =
        let local : (more : List (Token T)) (m : ℕ) → Alike y.1 more → Fuel limit (suc n) m (((t ∷ p) ++ s.0) ++ more)
        → read_parts number R firsts limit m (((t ∷ p) ++ s.0) ++ more) ≡ Ok (x.0 ∷ y.0, more) = λ more m al f.
        let al2 : Alike x.1 (s.0 ++ more) = rw s.1 (alike_append s.0 y.1 more al) in
        let k = fuel_step limit n m (((t ∷ p) ++ s.0) ++ more) (s.0 ++ more) (shorter t p s.0 more) f in
        parts_on limit m k.0 t p s.0 more x.0 (Ok (y.0, more)) k.1 h (loc (s.0 ++ more) al2) (s.4 more k.0 al k.2) in (
          (t ∷ p) ++ s.0,
          ap (λ (zs : List (Token T)). (t ∷ p) ++ zs) s.1 ∙ sym (append_assoc (t ∷ p) s.0 y.1),
          (t ∷ p, s.0, refl, l, s.2),
          bound_more limit n (length y.0) s.3,
          local,
        )
    parts_second limit n t p x h l loc (Err g) s =
        let local : (more : List (Token T)) (m : ℕ) → Alike g.0 more → Fuel limit (suc n) m (((t ∷ p) ++ s.0) ++ more)
        → read_parts number R firsts limit m (((t ∷ p) ++ s.0) ++ more) ≡ Err (more, g.1) = λ more m al f.
        let al2 : Alike x.1 (s.0 ++ more) = rw s.1 (alike_append s.0 g.0 more al) in
        let k = fuel_step limit n m (((t ∷ p) ++ s.0) ++ more) (s.0 ++ more) (shorter t p s.0 more) f in
        parts_on limit m k.0 t p s.0 more x.0 (Err (more, g.1)) k.1 h (loc (s.0 ++ more) al2) (s.3 more k.0 al k.2) in (
          (t ∷ p) ++ s.0,
          ap (λ (zs : List (Token T)). (t ∷ p) ++ zs) s.1 ∙ sym (append_assoc (t ∷ p) s.0 g.0),
          (s.2.0, x.0 ∷ s.2.1, (t ∷ p, s.0 ++ s.2.0, append_assoc (t ∷ p) s.0 s.2.0, l, s.2.2), bound_more limit n (length s.2.1) s.2.3),
          local,
        )

    parts_first : (limit : Limit L) (n : ℕ) (ts : List (Token T)) → begins number firsts ts ≡ true → Enough limit (suc n) ts
        → ((v : A) → G [] v → ⊥) →
        (r : Read T L A) → Shows G R ts r
        → ((rest : List (Token T)) → Enough limit n rest → ShowsParts limit n rest (read_parts number R firsts limit n rest)) →
        ShowsParts limit (suc n) ts (r >>= λ x. read_parts number R firsts limit n x.1 >>= λ y. Ok (x.0 ∷ y.0, y.1))
    parts_first limit n ts b en some (Ok x) s next = go s.0 s.1 s.2 s.3
      where
        go : (pre : List (Token T)) → ts ≡ pre ++ x.1 → G pre x.0
            → ((more : List (Token T)) → Alike x.1 more → R (pre ++ more) ≡ Ok (x.0, more)) →
            ShowsParts limit (suc n) ts (read_parts number R firsts limit n x.1 >>= λ y. Ok (x.0 ∷ y.0, y.1))
        go [] e l loc = absurd (some x.0 l)
        go (t ∷ p) e l loc =
            let less : length x.1 < length ts = rw e (omega (arith, length-append p x.1)) in
            subst (λ zs. ShowsParts limit (suc n) zs (read_parts number R firsts limit n x.1 >>= λ y. Ok (x.0 ∷ y.0, y.1))) (sym e)
            (parts_second limit n t p x (head_has ts (p ++ x.1) t e b) l loc (read_parts number R firsts limit n x.1)
            (next x.1 (enough_less limit n ts x.1 less en)))
    parts_first limit n ts b en some (Err f) s next =
        let local : (more : List (Token T)) (m : ℕ) → Alike f.0 more → Fuel limit (suc n) m (s.0 ++ more)
        → read_parts number R firsts limit m (s.0 ++ more) ≡ Err (more, f.1) = λ more m al fu.
        let al2 : Alike ts (s.0 ++ more) = rw s.1 (alike_append s.0 f.0 more al) in
        let b2 = alike_begins firsts ts (s.0 ++ more) al2 ∙ b in
        let k = fuel_some limit n m (s.0 ++ more) b2 fu in
        goes number R firsts limit m k.0 (s.0 ++ more) k.1 b2 ∙ rw (s.3 more al) refl in
        (s.0, s.1, (s.2.0, s.2.1 ∷ [], (s.0 ++ s.2.0, [], sym (append-nil (s.0 ++ s.2.0)), s.2.2, refl), bound_one limit n), local)

    parts_go : (limit : Limit L) (n : ℕ) (ts : List (Token T)) → Enough limit (suc n) ts → ((v : A) → G [] v → ⊥) → (b : Bool)
        → begins number firsts ts ≡ b →
        Shows G R ts (R ts)
        → ((rest : List (Token T)) → Enough limit n rest → ShowsParts limit n rest (read_parts number R firsts limit n rest))
        → ShowsParts limit (suc n) ts (read_parts number R firsts limit (suc n) ts)
    parts_go limit n ts en some true e s next =
        rw (goes number R firsts limit (suc n) n ts refl e) (parts_first limit n ts e en some (R ts) s next)
    parts_go limit n ts en some false e s next = rw (stops number R firsts limit (suc n) ts e) (parts_stop limit (suc n) ts e)

    pub parts_show : (limit : Limit L) → ((v : A) → G [] v → ⊥) → ((ts : List (Token T)) → Shows G R ts (R ts))
        → (n : ℕ) (ts : List (Token T)) → Enough limit n ts → ShowsParts limit n ts (read_parts number R firsts limit n ts)
    parts_show limit some each zero ts en = parts_last limit ts en (begins number firsts ts) refl
    parts_show limit some each (suc n) ts en =
        parts_go limit n ts en some (begins number firsts ts) refl (each ts) (parts_show limit some each n)

  -- ---- the reader shows what it found

  pub text_some : {L A : Type 0} (g : Grammar T L A) → nullable g ≡ false → (v : A) → Matches number g [] v → ⊥
  text_some g e v m = let t = nullable_of number g v m in cc

  pub enough_at : {L : Type 0} (limit : Limit L) (ts : List (Token T)) → Enough limit (steps limit ts) ts
  enough_at unlimited ts = omega arith
  enough_at (at_most n label) ts = tt

  pub fuel_at : {L : Type 0} (limit : Limit L) (ts us : List (Token T)) → Fuel limit (steps limit ts) (steps limit us) us
  fuel_at unlimited ts us = omega arith
  fuel_at (at_most n label) ts us = refl

  pub within_at : {L : Type 0} (limit : Limit L) (ts : List (Token T)) (k : ℕ) → Bound limit (steps limit ts) k → Within limit k
  within_at unlimited ts k h = tt
  within_at (at_most n label) ts k h = h

  pub repetition_shows : {L A : Type 0} (g : Grammar T L A) (limit : Limit L) (ts : List (Token T)) (r : Read T L (List A))
      → ShowsParts (Matches number g) (read number g) (first_set g) limit (steps limit ts) ts r
      → Shows (Matches number (repetition limit g)) (read number (repetition limit g)) ts r
  repetition_shows g limit ts (Ok x) s = (
    s.0,
    s.1,
    (s.2, within_at limit ts (length x.0) s.3),
    λ more al. s.4 more (steps limit (s.0 ++ more)) al (fuel_at limit ts (s.0 ++ more)),
  )
  repetition_shows g limit ts (Err f) s = (
    s.0,
    s.1,
    (s.2.0, s.2.1, (s.2.2, within_at limit ts (length s.2.1) s.2.3)),
    λ more al. s.3 more (steps limit (s.0 ++ more)) al (fuel_at limit ts (s.0 ++ more)),
  )

  pub terminal_shows : (L : Type 0) (firsts : List T) → Viable number {L = L} (terminal firsts) [] → (ts : List (Token T))
      → Shows {L = L} (Matches number {L = L} (terminal firsts)) (read_terminal number firsts) ts (read_terminal number firsts ts)
  terminal_shows L firsts v [] = ([], refl, v, λ more al. rw al refl)
  terminal_shows L firsts v (t ∷ ts) = go (has number firsts t.terminal) refl
    where
      go : (b : Bool) → has number firsts t.terminal ≡ b → Shows {L = L} (Matches number {L = L} (terminal firsts))
          (read_terminal number firsts) (t ∷ ts) (cond b (Ok (t, ts)) (Err (t ∷ ts, None)))
      go true e = (t ∷ [], refl, (refl, e), λ more al. rw e refl)
      go false e = ([], refl, v, λ more al. rw (al.1, e) refl)

  pub mapped_shows : {L A B : Type 0} (f : A → B) (g : Grammar T L A) (ts : List (Token T)) (r : Read T L A) → Shows (Matches number g)
      (read number g) ts r → Shows (Matches number (mapped f g)) (read number (mapped f g)) ts (r >>= λ x. Ok (f x.0, x.1))
  mapped_shows f g ts (Ok x) s = (s.0, s.1, (x.0, s.2, refl), λ more al. rw (s.3 more al) refl)
  mapped_shows f g ts (Err e) s = (s.0, s.1, (s.2.0, f s.2.1, (s.2.1, s.2.2, refl)), λ more al. rw (s.3 more al) refl)

  -- a choice by the first token
  pub choice_shows : {L A : Type 0} (G H : List (Token T) → A → Type 0) (R S : List (Token T) → Read T L A) (firsts : List T)
      → ((ts : List (Token T)) (v : A) → G ts v → H ts v) →
      (b : Bool) → (ts : List (Token T)) → ((more : List (Token T)) → begins number firsts more ≡ b → S more ≡ R more)
      → begins number firsts ts ≡ b → (r : Read T L A) → Shows G R ts r → Shows H S ts r
  choice_shows G H R S firsts into b ts same e (Ok x) s = (
    s.0,
    s.1,
    into s.0 x.0 s.2,
    λ more al.
        let al2 : Alike ts (s.0 ++ more) = rw s.1 (alike_append s.0 x.1 more al) in
        same (s.0 ++ more) (alike_begins firsts ts (s.0 ++ more) al2 ∙ e) ∙ s.3 more al,
  )
  choice_shows G H R S firsts into b ts same e (Err f) s = (
    s.0,
    s.1,
    (s.2.0, s.2.1, into (s.0 ++ s.2.0) s.2.1 s.2.2),
    λ more al.
        let al2 : Alike ts (s.0 ++ more) = rw s.1 (alike_append s.0 f.0 more al) in
        same (s.0 ++ more) (alike_begins firsts ts (s.0 ++ more) al2 ∙ e) ∙ s.3 more al,
  )

  pub alternative_shows : {L A : Type 0} (g h : Grammar T L A) (ts : List (Token T))
      → Shows (Matches number g) (read number g) ts (read number g ts) → Shows (Matches number h) (read number h) ts (read number h ts)
      → (b : Bool) → begins number (first_set g) ts ≡ b →
      Shows (Matches number (alternative g h)) (read number (alternative g h)) ts (cond b (read number g ts) (read number h ts))
  alternative_shows g h ts p q true e = choice_shows (Matches number g) (Matches number (alternative g h)) (read number g)
      (read number (alternative g h)) (first_set g) (λ us v m. inl m) true ts (λ more k. rw k refl) e (read number g ts) p
  alternative_shows g h ts p q false e = choice_shows (Matches number h) (Matches number (alternative g h)) (read number h)
      (read number (alternative g h)) (first_set g) (λ us v m. inr m) false ts (λ more k. rw k refl) e (read number h ts) q

  pub labelled_shows : {L A : Type 0} (label : L) (g : Grammar T L A) (ts : List (Token T)) → Viable number g []
      → Shows (Matches number g) (read number g) ts (read number g ts) → (b : Bool) → begins number (first_set g) ts ≡ b →
      Shows (Matches number (labelled label g)) (read number (labelled label g)) ts (cond b (read number g ts) (Err (ts, Some label)))
  labelled_shows label g ts v p true e = choice_shows (Matches number g) (Matches number (labelled label g)) (read number g)
      (read number (labelled label g)) (first_set g) (λ us x m. m) true ts (λ more k. rw k refl) e (read number g ts) p
  labelled_shows label g ts v p false e = ([], refl, v, λ more al. rw (alike_begins (first_set g) ts more al ∙ e) refl)

  pub read_shows : {L A : Type 0} (g : Grammar T L A) → is_predictive number g ≡ true → (ts : List (Token T))
      → Shows (Matches number g) (read number g) ts (read number g ts)
  read_shows {L} (terminal firsts) p ts = terminal_shows L firsts (text_of number {L = L} (terminal firsts) p) ts
  read_shows (empty v) p ts = ([], refl, (refl, refl), λ more al. refl)
  read_shows (mapped f g) p ts = mapped_shows f g ts (read number g ts) (read_shows g p ts)
  read_shows (sequence g h) p ts =
      let q = and_parts (is_predictive number g) (is_predictive number h && disjoint number (follow_last g) (first_set h)) p in
      let r = and_parts (is_predictive number h) (disjoint number (follow_last g) (first_set h)) q.1 in
      let t = text_of number h r.0 in
      both_first (Matches number g) (Matches number h) (read number g) (read number h) t.0 t.1 t.2 ts (read number g ts)
      (read_shows g q.0 ts) (read_shows h r.0)
  read_shows (alternative g h) p ts =
      let q =
      and_parts (is_predictive number g && is_predictive number h) (not (nullable g) && disjoint number (first_set g) (first_set h)) p in
      let r = and_parts (is_predictive number g) (is_predictive number h) q.0 in
      alternative_shows g h ts (read_shows g r.0 ts) (read_shows h r.1 ts) (begins number (first_set g) ts) refl
  read_shows (repetition limit g) p ts =
      let q = and_parts (is_predictive number g) (not (nullable g) && disjoint number (follow_last g) (first_set g)) p in
      let r = and_parts (not (nullable g)) (disjoint number (follow_last g) (first_set g)) q.1 in
      repetition_shows g limit ts (read number (repetition limit g) ts)
      (parts_show (Matches number g) (read number g) (first_set g) limit (text_some g (not-true (nullable g) r.0)) (read_shows g q.0)
      (steps limit ts) ts (enough_at limit ts))
  read_shows (labelled label g) p ts =
      let q = and_parts (is_predictive number g) (not (nullable g)) p in
      labelled_shows label g ts (text_of number g q.0) (read_shows g q.0 ts) (begins number (first_set g) ts) refl
