-- Where a label stands, the reader stops with it.
use Rattle.swreq_grammar.specs.declared.token.Token.{Token}
use Rattle.std.proofs.Common.{◌≡◌, ℕ, suc, ◌+◌, ◌-◌, ◌≤◌, true, false, cond, List, [], ◌∷◌, ◌++◌, length, Some, Err, refl, sym, ap, subst, ◌∙◌, append_assoc, arith, inl, inr, eq-eqb}
use Rattle.std.specs.Prelude.{◌&&◌, not, nat_eq}
use Rattle.std.proofs.lemmas.Bool.{and_parts, or_left, or_right, not-true}
use Rattle.std.proofs.lemmas.List.{length-append}
use Rattle.swreq_grammar.specs.Grammar.{Limit, unlimited, at_most, Grammar, terminal, empty, mapped, sequence, alternative, repetition, labelled, has, Within, Parts, Matches}
use Rattle.swreq_grammar.specs.Reader.{Fault, begins, nullable, first_set, follow_last, disjoint, is_empty, is_predictive, steps, read_parts, read}
use Rattle.swreq_grammar.specs.Refusal.{HasLabel, begins_labelled, is_well_labelled}
use Rattle.swreq_grammar.proofs.Sets.{not_in_disjoint, ends_front, nullable_of, first_of, first_step, first_parts, more_left, more_right}
use Rattle.swreq_grammar.proofs.Beginning.{text_begins, begins_no_text}
use Rattle.swreq_grammar.proofs.Reading.{text_some, parts_long}
use Rattle.swreq_grammar.proofs.Repeating.{goes}
use Rattle.swreq_grammar.proofs.Exact.{apart_front, front_begins, longer, complete, Complete}

module _ {T L : Type 0} (number : T → ℕ) (label : L) (rest : List (Token T)) where
  label_first : {A : Type 0} (g : Grammar T L A) → is_predictive number g ≡ true → HasLabel number label g [] rest
      → begins_labelled g ≡ true
  label_first (terminal firsts) p k = absurd k
  label_first (empty v) p k = absurd k
  label_first (mapped f g) p k = label_first g p k
  label_first (sequence g h) p (inl k) =
      let q = and_parts (is_predictive number g) (is_predictive number h && disjoint number (follow_last g) (first_set h)) p in
      or_left (begins_labelled g) (nullable g && begins_labelled h) (label_first g q.0 k)
  label_first (sequence g h) p (inr k) =
      let q = and_parts (is_predictive number g) (is_predictive number h && disjoint number (follow_last g) (first_set h)) p in
      let r = and_parts (is_predictive number h) (disjoint number (follow_last g) (first_set h)) q.1 in
      let e = ends_front number k.0 k.1 k.3 in
      or_right (begins_labelled g) (nullable g && begins_labelled h) (rw (nullable_of number g k.2
      (subst (λ zs. Matches number g zs k.2) e.0 k.4)) (label_first h r.0 (subst (λ zs. HasLabel number label h zs rest) e.1 k.5)))
  label_first (alternative g h) p (inl k) =
      let q =
      and_parts (is_predictive number g && is_predictive number h) (not (nullable g) && disjoint number (first_set g) (first_set h)) p in
      or_left (begins_labelled g) (begins_labelled h) (label_first g (and_parts (is_predictive number g) (is_predictive number h) q.0).0 k)
  label_first (alternative g h) p (inr k) =
      let q =
      and_parts (is_predictive number g && is_predictive number h) (not (nullable g) && disjoint number (first_set g) (first_set h)) p in
      or_right (begins_labelled g) (begins_labelled h) (label_first h (and_parts (is_predictive number g) (is_predictive number h) q.0).1 k)
  label_first (repetition unlimited g) p (inl k) =
      let q = and_parts (is_predictive number g) (not (nullable g) && disjoint number (follow_last g) (first_set g)) p in
      label_first g q.0 (subst (λ zs. HasLabel number label g zs rest) (ends_front number k.0 k.1 k.3).1 k.5)
  label_first (repetition (at_most n wanted) g) p (inl k) =
      let q = and_parts (is_predictive number g) (not (nullable g) && disjoint number (follow_last g) (first_set g)) p in
      or_left (begins_labelled g) (nat_eq n 0)
      (label_first g q.0 (subst (λ zs. HasLabel number label g zs rest) (ends_front number k.0 k.1 k.3).1 k.5))
  label_first (repetition unlimited g) p (inr k) = absurd k.2
  label_first (repetition (at_most n wanted) g) p (inr ([], a, f, b)) = or_right (begins_labelled g) (nat_eq n 0) (eq-eqb n 0 (sym f.0))
  label_first (repetition (at_most n wanted) g) p (inr (v ∷ vs, a, f, b)) =
      let q = and_parts (is_predictive number g) (not (nullable g) && disjoint number (follow_last g) (first_set g)) p in
      let r = and_parts (not (nullable g)) (disjoint number (follow_last g) (first_set g)) q.1 in
      absurd (text_some number g (not-true (nullable g) r.0) v (subst (λ zs. Matches number g zs v) (ends_front number a.0 a.1 a.2).0 a.3))
  label_first (labelled other g) p k = refl

  label_after : {A : Type 0} (g : Grammar T L A) → (u : Token T) (pre : List (Token T)) → HasLabel number label g (u ∷ pre) rest
      → has number (first_set g) u.terminal ≡ true
  label_after (terminal firsts) u pre k = absurd k
  label_after (empty v) u pre k = absurd k
  label_after (mapped f g) u pre k = label_after g u pre k
  label_after (sequence g h) u pre (inl k) =
      more_left number (first_set g) (cond (nullable g) (first_set h) []) u.terminal (label_after g u pre k)
  label_after (sequence g h) u pre (inr k) =
      let firsts = first_set g ++ cond (nullable g) (first_set h) [] in
      first_step number {B = Unit {0}} (Matches number g) (λ zs x. HasLabel number label h zs rest) firsts
      (λ t ts v m. more_left number (first_set g) (cond (nullable g) (first_set h) []) t.terminal (first_of number g t ts v m)) k.2 tt u pre
      (λ n l. more_right number (first_set g) (cond (nullable g) (first_set h) []) u.terminal
      (rw (nullable_of number g k.2 l) (label_after h u pre n))) k.0 k.1 k.3 k.4 k.5
  label_after (alternative g h) u pre (inl k) = more_left number (first_set g) (first_set h) u.terminal (label_after g u pre k)
  label_after (alternative g h) u pre (inr k) = more_right number (first_set g) (first_set h) u.terminal (label_after h u pre k)
  label_after (repetition limit g) u pre (inl k) =
      first_step number {B = Unit {0}} (λ zs vs. Parts (Matches number g) zs vs) (λ zs x. HasLabel number label g zs rest) (first_set g)
      (λ t ts vs m. first_parts number (Matches number g) (first_set g) (first_of number g) vs t ts m) k.2 tt u pre
      (λ n l. label_after g u pre n) k.0 k.1 k.3 k.4 k.5
  label_after (repetition limit g) u pre (inr k) = first_parts number (Matches number g) (first_set g) (first_of number g) k.0 u pre k.1
  label_after (labelled other g) u pre (inl k) = absurd (let e = k.0 in cc)
  label_after (labelled other g) u pre (inr k) = label_after g u pre k

  -- at a label that does not stand first, the part begins
  label_begins : {A : Type 0} (g : Grammar T L A) → is_predictive number g ≡ true → begins_labelled g ≡ false → (pre : List (Token T))
      → HasLabel number label g pre rest → begins number (first_set g) (pre ++ rest) ≡ true
  label_begins g p s [] k = absurd (let e = label_first g p k in cc)
  label_begins g p s (u ∷ pre) k = label_after g u pre k

  begins_none : (firsts : List T) (ts : List (Token T)) → is_empty firsts ≡ true → begins number firsts ts ≡ false
  begins_none [] [] e = refl
  begins_none [] (t ∷ ts) e = refl
  begins_none (c ∷ cs) ts e = absurd cc

  begins_disjoint : (cs ds : List T) (ts : List (Token T)) → disjoint number cs ds ≡ true → begins number ds ts ≡ true
      → begins number cs ts ≡ false
  begins_disjoint cs ds [] a b = absurd cc
  begins_disjoint cs ds (t ∷ ts) a b = not_in_disjoint number cs ds t.terminal a b

  -- what stands before a label of h is read to its end
  label_ends : {A : Type 0} (h : Grammar T L A) → is_predictive number h ≡ true → (firsts : List T)
      → disjoint number firsts (first_set h) ≡ true → cond (begins_labelled h) (is_empty firsts) true ≡ true → (pre : List (Token T))
      → HasLabel number label h pre rest → begins number firsts (pre ++ rest) ≡ false
  label_ends h p firsts a c [] k = begins_none firsts rest (let e = label_first h p k in rw e at c)
  label_ends h p firsts a c (u ∷ pre) k = not_in_disjoint number firsts (first_set h) u.terminal a (label_after h u pre k)

  parts_shorter : {A : Type 0} (g : Grammar T L A) → nullable g ≡ false → (vs : List A) (pre : List (Token T))
      → Parts (Matches number g) pre vs → length vs ≤ length pre
  parts_shorter g e [] pre p = omega arith
  parts_shorter g e (v ∷ vs) pre p =
      let a = longer number g e p.0 p.1 v p.3 in
      let b = parts_shorter g e vs p.1 p.4 in
      rw p.2 (omega arith)

  parts_before : {A : Type 0} (g : Grammar T L A) (limit : Limit L) → nullable g ≡ false → disjoint number (follow_last g) (first_set g)
      ≡ true → Complete number g → (vs : List A) (k : ℕ) (pre tail : List (Token T)) (f : Fault T L) →
      Parts (Matches number g) pre vs → begins number (first_set g) tail ≡ true → read_parts number (read number g)
      (first_set g) limit k tail ≡ Err f → read_parts number (read number g) (first_set g) limit (length vs + k) (pre ++ tail) ≡ Err f
  parts_before g limit e a each [] k pre tail f p b r = let z : 0 + k ≡ k = omega arith in rw (p, z) r
  parts_before g limit e a each (v ∷ vs) k pre tail f p b r =
      let whole : pre ++ tail ≡ p.0 ++ (p.1 ++ tail) = ap (λ (zs : List (Token T)). zs ++ tail) p.2 ∙ append_assoc p.0 p.1 tail in
      let z : length (v ∷ vs) + k ≡ suc (length vs + k) = omega arith in
      let now = each p.0 v (p.1 ++ tail) p.3 (apart_front number (repetition unlimited g) (follow_last g) a p.1 tail vs (p.4, tt)
      (λ y. begins_disjoint (follow_last g) (first_set g) tail a b)) in
      let later = parts_before g limit e a each vs k p.1 tail f p.4 b r in
      ap (read_parts number (read number g) (first_set g) limit (length (v ∷ vs) + k)) whole
      ∙ goes number (read number g) (first_set g) limit (length (v ∷ vs) + k) (length vs + k)
      (p.0 ++ (p.1 ++ tail)) z (front_begins number g e p.0 (p.1 ++ tail) v p.3)
      ∙ rw (now, later) refl

  begins_some : (firsts : List T) (ts : List (Token T)) → begins number firsts ts ≡ true → 1 ≤ length ts
  begins_some firsts [] b = absurd cc
  begins_some firsts (t ∷ ts) b = omega arith

  -- the steps after this many parts
  steps_on : {A : Type 0} (limit : Limit L) (vs : List A) (pre mid : List (Token T)) → length vs ≤ length pre
      → (firsts : List T) → begins number firsts (mid ++ rest) ≡ true → Within limit (suc (length vs))
      → (k : ℕ) × (steps limit (pre ++ (mid ++ rest)) ≡ length vs + suc k)
  steps_on unlimited vs pre mid h firsts b i =
      let some = begins_some firsts (mid ++ rest) b in
      (length (pre ++ (mid ++ rest)) - suc (length vs), omega (arith, length-append pre (mid ++ rest)))
  steps_on (at_most l wanted) vs pre mid h firsts b i = (l - suc (length vs), omega arith)

  pub label_read : {A : Type 0} (g : Grammar T L A) → is_predictive number g ≡ true → is_well_labelled g ≡ true → (pre : List (Token T))
      → HasLabel number label g pre rest → read number g (pre ++ rest) ≡ Err (rest, Some label)
  label_read (terminal firsts) p q pre k = absurd k
  label_read (empty v) p q pre k = absurd k
  label_read (mapped f g) p q pre k = rw (label_read g p q pre k) refl
  label_read (sequence g h) p q pre (inl k) =
      let a = and_parts (is_predictive number g) (is_predictive number h && disjoint number (follow_last g) (first_set h)) p in
      let c = and_parts (is_well_labelled g) (is_well_labelled h && cond (begins_labelled h) (is_empty (follow_last g)) true) q in
      rw (label_read g a.0 c.0 pre k) refl
  label_read (sequence g h) p q pre (inr k) =
      let a = and_parts (is_predictive number g) (is_predictive number h && disjoint number (follow_last g) (first_set h)) p in
      let b = and_parts (is_predictive number h) (disjoint number (follow_last g) (first_set h)) a.1 in
      let c = and_parts (is_well_labelled g) (is_well_labelled h && cond (begins_labelled h) (is_empty (follow_last g)) true) q in
      let d = and_parts (is_well_labelled h) (cond (begins_labelled h) (is_empty (follow_last g)) true) c.1 in
      let whole : pre ++ rest ≡ k.0 ++ (k.1 ++ rest) = ap (λ (zs : List (Token T)). zs ++ rest) k.3 ∙ append_assoc k.0 k.1 rest in
      let now = complete number g a.0 k.0 k.2 (k.1 ++ rest) k.4 (label_ends h b.0 (follow_last g) b.1 d.1 k.1 k.5) in
      let later = label_read h b.0 d.0 k.1 k.5 in
      ap (read number (sequence g h)) whole ∙ rw (now, later) refl
  label_read (alternative g h) p q pre (inl k) =
      let a =
      and_parts (is_predictive number g && is_predictive number h) (not (nullable g) && disjoint number (first_set g) (first_set h)) p in
      let b = and_parts (is_predictive number g) (is_predictive number h) a.0 in
      let c = and_parts (is_well_labelled g && is_well_labelled h) (not (begins_labelled g) && not (begins_labelled h)) q in
      let d = and_parts (is_well_labelled g) (is_well_labelled h) c.0 in
      let e = and_parts (not (begins_labelled g)) (not (begins_labelled h)) c.1 in
      rw (label_begins g b.0 (not-true (begins_labelled g) e.0) pre k) (label_read g b.0 d.0 pre k)
  label_read (alternative g h) p q pre (inr k) =
      let a =
      and_parts (is_predictive number g && is_predictive number h) (not (nullable g) && disjoint number (first_set g) (first_set h)) p in
      let b = and_parts (is_predictive number g) (is_predictive number h) a.0 in
      let r = and_parts (not (nullable g)) (disjoint number (first_set g) (first_set h)) a.1 in
      let c = and_parts (is_well_labelled g && is_well_labelled h) (not (begins_labelled g) && not (begins_labelled h)) q in
      let d = and_parts (is_well_labelled g) (is_well_labelled h) c.0 in
      let e = and_parts (not (begins_labelled g)) (not (begins_labelled h)) c.1 in
      rw (begins_disjoint (first_set g) (first_set h) (pre ++ rest) r.1 (label_begins h b.1 (not-true (begins_labelled h) e.1) pre k))
      (label_read h b.1 d.1 pre k)
  label_read (repetition limit g) p q pre (inl k) =
      let a = and_parts (is_predictive number g) (not (nullable g) && disjoint number (follow_last g) (first_set g)) p in
      let r = and_parts (not (nullable g)) (disjoint number (follow_last g) (first_set g)) a.1 in
      let c = and_parts (is_well_labelled g) (not (begins_labelled g)) q in
      let some = not-true (nullable g) r.0 in
      let b = label_begins g a.0 (not-true (begins_labelled g) c.1) k.1 k.5 in
      let whole : pre ++ rest ≡ k.0 ++ (k.1 ++ rest) = ap (λ (zs : List (Token T)). zs ++ rest) k.3 ∙ append_assoc k.0 k.1 rest in
      let n = steps_on limit k.2 k.0 k.1 (parts_shorter g some k.2 k.0 k.4) (first_set g) b k.6 in
      let now : read_parts number (read number g) (first_set g) limit (suc n.0) (k.1 ++ rest) ≡ Err (rest, Some label) = goes number
      (read number g) (first_set g) limit (suc n.0) n.0 (k.1 ++ rest) refl b ∙ rw (label_read g a.0 c.0 k.1 k.5) refl in
      ap (read number (repetition limit g)) whole
      ∙ rw n.1 (parts_before g limit some r.1 (complete number g a.0) k.2 (suc n.0) k.0 (k.1 ++ rest) (rest, Some label) k.4 b now)
  label_read (repetition unlimited g) p q pre (inr k) = absurd k.2
  label_read (repetition (at_most l wanted) g) p q pre (inr k) =
      let a = and_parts (is_predictive number g) (not (nullable g) && disjoint number (follow_last g) (first_set g)) p in
      let r = and_parts (not (nullable g)) (disjoint number (follow_last g) (first_set g)) a.1 in
      let some = not-true (nullable g) r.0 in
      let z : l ≡ length k.0 + 0 = omega (arith, k.2.0) in
      let more = text_begins number g rest k.3 in
      let now : read_parts number (read number g) (first_set g) (at_most l wanted) 0 rest ≡ Err (rest, Some label) =
      parts_long number (Matches number g) (read number g) (first_set g) l 0 wanted rest refl more ∙ rw k.2.1 refl in
      ap (λ n. read_parts number (read number g) (first_set g) (at_most l wanted) n (pre ++ rest)) z
      ∙ parts_before g (at_most l wanted) some r.1 (complete number g a.0) k.0 0 pre rest (rest, Some label) k.1 more now
  label_read (labelled other g) p q pre (inl k) =
      let a = and_parts (is_predictive number g) (not (nullable g)) p in
      let c = and_parts (is_well_labelled g) (not (begins_labelled g)) q in
      let none = begins_no_text number g a.0 (not-true (begins_labelled g) c.1) rest k.2 in
      rw (k.0, none, k.1) refl
  label_read (labelled other g) p q pre (inr k) =
      let a = and_parts (is_predictive number g) (not (nullable g)) p in
      let c = and_parts (is_well_labelled g) (not (begins_labelled g)) q in
      rw (label_begins g a.0 (not-true (begins_labelled g) c.1) pre k) (label_read g a.0 c.0 pre k)
