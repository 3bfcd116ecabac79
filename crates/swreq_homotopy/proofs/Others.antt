-- Steps of kept rules other than one.
use Rattle.std.proofs.Common.{◌≡◌, ◌≢◌, ℕ, zero, suc, ◌+◌, ◌-◌, inl, inr, refl, sym, ap, subst, arith, Bool, true, false, List, [], ◌∷◌, ◌++◌, length, length-drop, take, drop, Some}
use Rattle.std.specs.List.{slice_get}
use Rattle.std.proofs.Math.Seq.{take-append_seam, take-length}
use Rattle.swreq_rule.specs.swreq_word.declared.symbols.Symbol.{Symbol}
use Rattle.swreq_rule.proofs.swreq_lemmas.Elements.{get_either}
use Rattle.swreq_path.specs.declared.steps.RewriteStep.{RewriteStep}
use Rattle.swreq_path.specs.declared.paths.Loop.{Loop}
use Rattle.swreq_path.specs.Inverse.{inverse_step, inverse}
use Rattle.swreq_path.proofs.Leading.{inverse_more}
use Rattle.swreq_homotopy.specs.Evidence.{IsMarked, AreOfOthers, Shows}
use Rattle.swreq_homotopy.specs.Search.{ShowsAt, rest_of, way_round}

module _ (keep : List Bool) (n : ℕ) where
  pub others_join : (xs ys : List RewriteStep) → AreOfOthers keep n xs → AreOfOthers keep n ys → AreOfOthers keep n (xs ++ ys)
  others_join xs ys a b k step e = elim (get_either xs ys k step e) [ inl h ↦ a k step h | inr h ↦ b h.0 step h.2 ]

  one_other : (step : RewriteStep) → (step.rule ≢ n) × IsMarked keep step.rule → AreOfOthers keep n (step ∷ [])
  one_other step a zero x e = subst (λ (s : RewriteStep). (s.rule ≢ n) × IsMarked keep s.rule) (let f : step ≡ x = cc in f) a
  one_other step a (suc k) x e = cc

  pub others_inverse : (xs : List RewriteStep) → AreOfOthers keep n xs → AreOfOthers keep n (inverse xs)
  others_inverse [] a = a
  others_inverse (x ∷ xs) a =
      subst (AreOfOthers keep n) (sym (inverse_more x xs))
      (others_join (inverse xs) (inverse_step x ∷ []) (others_inverse xs (λ k. a (suc k))) (one_other (inverse_step x) (a zero x refl)))

  pub others_round : (forward : Bool) (steps : List RewriteStep) (at : ℕ) → AreOfOthers keep n (take at steps)
      → AreOfOthers keep n (drop (suc at) steps)
      → AreOfOthers keep n (way_round forward steps at)
  others_round true steps at a b = others_inverse (rest_of steps at) (others_join (drop (suc at) steps) (take at steps) b a)
  others_round false steps at a b = others_join (drop (suc at) steps) (take at steps) b a

-- a list, cut at one of its items
pub cut_at : {A : Type 0} (xs : List A) (k : ℕ) (x : A) → slice_get xs k ≡ Some x → xs ≡ take k xs ++ x ∷ drop (suc k) xs
cut_at [] k x e = cc
cut_at (y ∷ xs) zero x e = cc
cut_at (y ∷ xs) (suc k) x e = ap (λ t. y ∷ t) (cut_at xs k x e)

at_seam : {A : Type 0} (xs ys : List A) (y : A) → slice_get (xs ++ y ∷ ys) (length xs) ≡ Some y
at_seam [] ys y = refl
at_seam (x ∷ xs) ys y = at_seam xs ys y

past_seam : {A : Type 0} (xs ys : List A) (y : A) → drop (suc (length xs)) (xs ++ y ∷ ys) ≡ ys
past_seam [] ys y = refl
past_seam (x ∷ xs) ys y = past_seam xs ys y

-- a step that shows its rule, by its place and by what stands on both sides of it
pub shows_by : (keep may : List Bool) (round : Loop) (at : ℕ) → (s : ShowsAt keep may round.path.steps at)
    → Shows keep may round s.bare.step.rule
shows_by keep may round at s = record {
  kept = s.kept;
  may_go = s.may_go;
  front = take at round.path.steps;
  step = s.bare.step;
  back = drop (suc at) round.path.steps;
  cut = cut_at round.path.steps at s.bare.step s.bare.is_step;
  of_rule = refl;
  none_before = s.bare.none_before;
  none_after = s.bare.none_after;
  front_others = s.front_others;
  back_others = s.back_others;
}

pub shows_at : (keep may : List Bool) (round : Loop) (n : ℕ) → Shows keep may round n → (at : ℕ) × ShowsAt keep may round.path.steps at
shows_at keep may round n s =
    let c = sym s.cut in
    let e = sym s.of_rule in (
      length s.front,
      record {
        bare = record {
          step = s.step;
          is_step = subst (λ xs. slice_get xs (length s.front) ≡ Some s.step) c (at_seam s.front s.back s.step);
          none_before = s.none_before;
          none_after = s.none_after;
        };
        kept = subst (IsMarked keep) e s.kept;
        may_go = subst (IsMarked may) e s.may_go;
        front_others = subst (λ xs. AreOfOthers keep s.step.rule (take (length s.front) xs)) c
            (subst (AreOfOthers keep s.step.rule) (sym (take-append_seam s.front (s.step ∷ s.back)))
            (subst (λ m. AreOfOthers keep m s.front) e s.front_others));
        back_others = subst (λ xs. AreOfOthers keep s.step.rule (drop (suc (length s.front)) xs)) c
            (subst (AreOfOthers keep s.step.rule) (sym (past_seam s.front s.back s.step))
            (subst (λ m. AreOfOthers keep m s.back) e s.back_others));
      },
    )

pub same_item : {A : Type 0} (xs : List A) (j k : ℕ) (x y : A) → k ≡ j → slice_get xs j ≡ Some x → slice_get xs k ≡ Some y → x ≡ y
same_item xs j k x y e f g = let h : slice_get xs j ≡ Some y = subst (λ i. slice_get xs i ≡ Some y) e g in cc

-- the step that is read at a place
pub same_step : (steps : List RewriteStep) (at : ℕ) (x y : RewriteStep) → slice_get steps at ≡ Some x → slice_get steps at ≡ Some y → x ≡ y
same_step steps at x y e f = cc

pub front_of : (keep may : List Bool) (steps : List RewriteStep) (at : ℕ) (x : RewriteStep) → slice_get steps at ≡ Some x
    → ShowsAt keep may steps at
    → AreOfOthers keep x.rule (take at steps)
front_of keep may steps at x e s =
    subst (λ (z : RewriteStep). AreOfOthers keep z.rule (take at steps)) (same_step steps at s.bare.step x s.bare.is_step e) s.front_others

pub back_of : (keep may : List Bool) (steps : List RewriteStep) (at : ℕ) (x : RewriteStep) → slice_get steps at ≡ Some x
    → ShowsAt keep may steps at
    → AreOfOthers keep x.rule (drop (suc at) steps)
back_of keep may steps at x e s = subst (λ (z : RewriteStep). AreOfOthers keep z.rule (drop (suc at) steps))
    (same_step steps at s.bare.step x s.bare.is_step e) s.back_others

pub no_symbols : (xs ys : List Symbol) → ys ≡ xs → length ys ≡ 0 → xs ≡ []
no_symbols xs [] e l = sym e
no_symbols xs (y ∷ ys) e l = absurd (omega (arith, l))

pub rest_is : (xs : List RewriteStep) (k : ℕ) → take (length xs - (k + 1)) (drop (k + 1) xs) ≡ drop (suc k) xs
rest_is xs k = let e : k + 1 ≡ suc k = omega arith in rw (e, ← length-drop (suc k) xs) (take-length (drop (suc k) xs))
