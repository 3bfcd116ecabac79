-- What the sets of terminals of a grammar say of its texts.
use Rattle.swreq_grammar.specs.declared.token.Token.{Token}
use Rattle.std.proofs.Common.{◌≡◌, ℕ, Bool, true, false, cond, List, [], ◌∷◌, ◌++◌, refl, sym, subst, ◌∙◌, arith, inl, inr, ◌⊎◌, zero, suc, eq-eqb}
use Rattle.std.proofs.lemmas.List.{append-nil}
use Rattle.std.specs.Prelude.{◌&&◌, ◌||◌, not, nat_eq}
use Rattle.std.proofs.lemmas.Bool.{and_parts, or_cases, or_left, or_parts, or_right, not-true, eqb-true}
use Rattle.swreq_grammar.specs.Grammar.{Limit, unlimited, at_most, Grammar, terminal, empty, mapped, sequence, alternative, repetition, labelled, has, Within, Parts, Matches}
use Rattle.swreq_grammar.specs.Reader.{begins, nullable, first_set, follow_last, disjoint, is_predictive}
use Rattle.swreq_grammar.specs.Refusal.{Viable, begins_labelled}

module _ {T : Type 0} (number : T → ℕ) where
  pub has_append : (xs ys : List T) (t : T) → has number (xs ++ ys) t ≡ (has number xs t || has number ys t)
  has_append [] ys t = refl
  has_append (x ∷ xs) ys t = elim (nat_eq (number x) (number t))
      as (λ b. (b || has number (xs ++ ys) t) ≡ ((b || has number xs t) || has number ys t)) [ true ↦ refl | false ↦ has_append xs ys t ]

  -- terminals with one number are in the same sets
  has_along : (ds : List T) (c t : T) → number c ≡ number t → has number ds c ≡ has number ds t
  has_along [] c t e = refl
  has_along (d ∷ ds) c t e = rw (e, has_along ds c t e) refl

  not_in_either : (cs ds : List T) (c t : T) (b : Bool) → nat_eq (number c) (number t) ≡ b → not (has number ds c) ≡ true
      → has number ds t ≡ true → has number cs t ≡ false → (b || has number cs t) ≡ false
  not_in_either cs ds c t true e a h rest =
      absurd (let same = has_along ds c t (eqb-true (number c) (number t) e) in let none = not-true (has number ds c) a in cc)
  not_in_either cs ds c t false e a h rest = rest

  pub not_in_disjoint : (cs ds : List T) (t : T) → disjoint number cs ds ≡ true → has number ds t ≡ true → has number cs t ≡ false
  not_in_disjoint [] ds t a h = refl
  not_in_disjoint (c ∷ cs) ds t a h =
      let p = and_parts (not (has number ds c)) (disjoint number cs ds) a in
      not_in_either cs ds c t (nat_eq (number c) (number t)) refl p.0 h (not_in_disjoint cs ds t p.1 h)

  pub begins_split : (xs ys : List T) (ts : List (Token T)) → begins number (xs ++ ys) ts ≡ false
      → (begins number xs ts ≡ false) × (begins number ys ts ≡ false)
  begins_split xs ys [] e = (refl, refl)
  begins_split xs ys (t ∷ ts) e = or_parts (has number xs t.terminal) (has number ys t.terminal) (sym (has_append xs ys t.terminal) ∙ e)

  pub ends_front : (xs ys : List (Token T)) → [] ≡ xs ++ ys → (xs ≡ []) × (ys ≡ [])
  ends_front [] ys e = (refl, sym e)
  ends_front (x ∷ xs) ys e = absurd cc

  -- ---- what a text may begin with

  pub nullable_of : {L A : Type 0} (g : Grammar T L A) (v : A) → Matches number g [] v → nullable g ≡ true
  nullable_of (terminal firsts) v m = absurd (let e = m.0 in cc)
  nullable_of (empty w) v m = refl
  nullable_of (mapped f g) v m = nullable_of g m.0 m.1
  nullable_of (sequence g h) v m =
      let e = ends_front m.0 m.1 m.2 in
      let a = subst (λ ts. Matches number g ts v.0) e.0 m.3 in
      let b = subst (λ ts. Matches number h ts v.1) e.1 m.4 in
      rw (nullable_of g v.0 a) (nullable_of h v.1 b)
  nullable_of (alternative g h) v (inl m) = or_left (nullable g) (nullable h) (nullable_of g v m)
  nullable_of (alternative g h) v (inr m) = or_right (nullable g) (nullable h) (nullable_of h v m)
  nullable_of (repetition limit g) v m = refl
  nullable_of (labelled label g) v m = nullable_of g v m

  -- a text that is not empty begins with one of the terminals
  abbrev pub FirstIn : {A : Type 0} → (List (Token T) → A → Type 0) → List T → Type 0
  FirstIn {A} G firsts = (t : Token T) (ts : List (Token T)) (v : A) → G (t ∷ ts) v → has number firsts t.terminal ≡ true

  pub first_step : {A B : Type 0} (G : List (Token T) → A → Type 0) (H : List (Token T) → B → Type 0) (firsts : List T) → FirstIn G firsts
      → (v : A) (w : B) (t : Token T) (ts : List (Token T)) →
      (H (t ∷ ts) w → G [] v → has number firsts t.terminal ≡ true) → (xs ys : List (Token T)) → t ∷ ts ≡ xs ++ ys → G xs v → H ys w
      → has number firsts t.terminal ≡ true
  first_step G H firsts f v w t ts k [] ys e l m = k (subst (λ zs. H zs w) (sym e) m) l
  first_step G H firsts f v w t ts k (x ∷ xs) ys e l m = let q : t ≡ x = cc in rw q (f x xs v l)

  pub first_parts : {A : Type 0} (G : List (Token T) → A → Type 0) (firsts : List T) → FirstIn G firsts
      → (vs : List A) (t : Token T) (ts : List (Token T)) → Parts G (t ∷ ts) vs → has number firsts t.terminal ≡ true
  first_parts G firsts f [] t ts m = absurd cc
  first_parts G firsts f (v ∷ vs) t ts m =
      first_step G (λ zs ws. Parts G zs ws) firsts f v vs t ts (λ n l. first_parts G firsts f vs t ts n) m.0 m.1 m.2 m.3 m.4

  pub more_left : (cs ds : List T) (n : T) → has number cs n ≡ true → has number (cs ++ ds) n ≡ true
  more_left cs ds n e = has_append cs ds n ∙ or_left (has number cs n) (has number ds n) e

  pub more_right : (cs ds : List T) (n : T) → has number ds n ≡ true → has number (cs ++ ds) n ≡ true
  more_right cs ds n e = has_append cs ds n ∙ or_right (has number cs n) (has number ds n) e

  pub first_of : {L A : Type 0} (g : Grammar T L A) → FirstIn (Matches number g) (first_set g)
  first_of (terminal firsts) t ts v m = let e : t ≡ v = let p = m.0 in cc in rw e m.1
  first_of (empty w) t ts v m = absurd (let p = m.0 in cc)
  first_of (mapped f g) t ts v m = first_of g t ts m.0 m.1
  first_of (sequence g h) t ts v m =
      let firsts = first_set g ++ cond (nullable g) (first_set h) [] in
      first_step (Matches number g) (Matches number h) firsts
      (λ u us w k. more_left (first_set g) (cond (nullable g) (first_set h) []) u.terminal (first_of g u us w k)) v.0 v.1 t ts
      (λ n l. more_right (first_set g) (cond (nullable g) (first_set h) []) t.terminal (rw (nullable_of g v.0 l) (first_of h t ts v.1 n)))
      m.0 m.1 m.2 m.3 m.4
  first_of (alternative g h) t ts v (inl m) = more_left (first_set g) (first_set h) t.terminal (first_of g t ts v m)
  first_of (alternative g h) t ts v (inr m) = more_right (first_set g) (first_set h) t.terminal (first_of h t ts v m)
  first_of (repetition limit g) t ts v m = first_parts (Matches number g) (first_set g) (first_of g) v t ts m.0
  first_of (labelled label g) t ts v m = first_of g t ts v m

  -- ---- each part has a text

  pub within_none : {L : Type 0} (limit : Limit L) → Within limit 0
  within_none unlimited = tt
  within_none (at_most n label) = omega arith

  pub text_of : {L A : Type 0} (g : Grammar T L A) → is_predictive number g ≡ true → Viable number g []
  text_of (terminal []) p = absurd cc
  text_of (terminal (c ∷ cs)) p = (
    record { terminal = c; start = 0; end = 0 } ∷ [],
    record { terminal = c; start = 0; end = 0 },
    (refl, or_left (nat_eq (number c) (number c)) (has number cs c) (eq-eqb (number c) (number c) refl)),
  )
  text_of (empty v) p = ([], v, (refl, refl))
  text_of (mapped f g) p = let t = text_of g p in (t.0, f t.1, (t.1, t.2, refl))
  text_of (sequence g h) p =
      let q = and_parts (is_predictive number g) (is_predictive number h && disjoint number (follow_last g) (first_set h)) p in
      let r = and_parts (is_predictive number h) (disjoint number (follow_last g) (first_set h)) q.1 in
      let a = text_of g q.0 in let b = text_of h r.0 in
      (a.0 ++ b.0, (a.1, b.1), (a.0, b.0, refl, a.2, b.2))
  text_of (alternative g h) p =
      let q =
      and_parts (is_predictive number g && is_predictive number h) (not (nullable g) && disjoint number (first_set g) (first_set h)) p in
      let r = and_parts (is_predictive number g) (is_predictive number h) q.0 in
      let a = text_of g r.0 in (a.0, a.1, inl a.2)
  text_of (repetition limit g) p = ([], [], (refl, within_none limit))
  text_of (labelled label g) p = text_of g (and_parts (is_predictive number g) (not (nullable g)) p).0

  empty_text : {L A : Type 0} (g : Grammar T L A) → nullable g ≡ true → (v : A) × Matches number g [] v
  empty_text (terminal terminals) e = absurd cc
  empty_text (empty v) e = (v, (refl, refl))
  empty_text (mapped f g) e = let t = empty_text g e in (f t.0, (t.0, t.1, refl))
  empty_text (sequence g h) e =
      let n = and_parts (nullable g) (nullable h) e in
      let a = empty_text g n.0 in let b = empty_text h n.1 in
      ((a.0, b.0), ([], [], refl, a.1, b.1))
  empty_text {A = A} (alternative g h) e = go (or_cases (nullable g) (nullable h) e) (empty_text g) (empty_text h)
    where
      go : (nullable g ≡ true) ⊎ (nullable h ≡ true) → (nullable g ≡ true → (v : A) × Matches number g [] v)
          → (nullable h ≡ true → (v : A) × Matches number h [] v) → (v : A) × Matches number (alternative g h) [] v
      go (inl n) a b = let t = a n in (t.0, inl t.1)
      go (inr n) a b = let t = b n in (t.0, inr t.1)
  empty_text (repetition limit g) e = ([], (refl, within_none limit))
  empty_text (labelled label g) e = empty_text g e

  -- ---- each terminal of the first set begins a text

  abbrev Begun : {L A : Type 0} → Grammar T L A → Token T → Type 0
  Begun g t = has number (first_set g) t.terminal ≡ true → Viable number g (t ∷ [])

  first_in_sequence : {L A B : Type 0} (g : Grammar T L A) (h : Grammar T L B) (t : Token T) → Begun g t → (nullable g ≡ true → Begun h t)
      → Viable number h [] → Begun (sequence g h) t
  first_in_sequence g h t a b w e = go (or_cases (has number (first_set g) t.terminal) (has number
      (cond (nullable g) (first_set h) []) t.terminal) (sym (has_append (first_set g) (cond (nullable g) (first_set h) []) t.terminal) ∙ e))
    where
      after_none : (n : Bool) → nullable g ≡ n → has number (cond n (first_set h) []) t.terminal ≡ true
          → Viable number (sequence g h) (t ∷ [])
      after_none true n k = let u = empty_text g n in let v = b n k in (v.0, (u.0, v.1), ([], t ∷ v.0, refl, u.1, v.2))
      after_none false n k = absurd cc

      go : (has number (first_set g) t.terminal ≡ true) ⊎ (has number (cond (nullable g) (first_set h) []) t.terminal ≡ true)
          → Viable number (sequence g h) (t ∷ [])
      go (inl k) = let u = a k in (u.0 ++ w.0, (u.1, w.1), (t ∷ u.0, w.0, refl, u.2, w.2))
      go (inr k) = after_none (nullable g) refl k

  first_in_alternative : {L A : Type 0} (g h : Grammar T L A) (t : Token T) → Begun g t → Begun h t → Begun (alternative g h) t
  first_in_alternative g h t a b e = go (or_cases (has number (first_set g) t.terminal) (has number (first_set h) t.terminal)
      (sym (has_append (first_set g) (first_set h) t.terminal) ∙ e))
    where
      go : (has number (first_set g) t.terminal ≡ true) ⊎ (has number (first_set h) t.terminal ≡ true)
          → Viable number (alternative g h) (t ∷ [])
      go (inl k) = let u = a k in (u.0, u.1, inl u.2)
      go (inr k) = let u = b k in (u.0, u.1, inr u.2)

  room_for_one : {L A : Type 0} (limit : Limit L) (g : Grammar T L A) → begins_labelled (repetition limit g) ≡ false
      → Within limit 1 × (begins_labelled g ≡ false)
  room_for_one unlimited g e = (tt, e)
  room_for_one (at_most zero label) g e = absurd (let f = or_parts (begins_labelled g) true e in cc)
  room_for_one (at_most (suc n) label) g e = (omega arith, (or_parts (begins_labelled g) (nat_eq (suc n) 0) e).0)

  pub first_begins : {L A : Type 0} (g : Grammar T L A) → is_predictive number g ≡ true → begins_labelled g ≡ false
      → (t : Token T) → Begun g t
  first_begins (terminal terminals) p q t h = ([], t, (refl, h))
  first_begins (empty v) p q t h = absurd cc
  first_begins (mapped f g) p q t h = let a = first_begins g p q t h in (a.0, f a.1, (a.1, a.2, refl))
  first_begins (sequence g h) p q t k =
      let a = and_parts (is_predictive number g) (is_predictive number h && disjoint number (follow_last g) (first_set h)) p in
      let b = and_parts (is_predictive number h) (disjoint number (follow_last g) (first_set h)) a.1 in
      let c = or_parts (begins_labelled g) (nullable g && begins_labelled h) q in
      first_in_sequence g h t (first_begins g a.0 c.0 t) (λ n. first_begins h b.0 (rw n at c.1) t) (text_of h b.0) k
  first_begins (alternative g h) p q t k =
      let a =
      and_parts (is_predictive number g && is_predictive number h) (not (nullable g) && disjoint number (first_set g) (first_set h)) p in
      let b = and_parts (is_predictive number g) (is_predictive number h) a.0 in
      let c = or_parts (begins_labelled g) (begins_labelled h) q in
      first_in_alternative g h t (first_begins g b.0 c.0 t) (first_begins h b.1 c.1 t) k
  first_begins (repetition limit g) p q t h =
      let a = and_parts (is_predictive number g) (not (nullable g) && disjoint number (follow_last g) (first_set g)) p in
      let b = room_for_one limit g q in
      let c = first_begins g a.0 b.1 t h in
      (c.0, c.1 ∷ [], ((t ∷ c.0, [], sym (append-nil (t ∷ c.0)), c.2, refl), b.0))
  first_begins (labelled label g) p q t h = absurd cc
