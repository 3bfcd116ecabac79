-- Places that are noted from the last signature to the first.
use Rattle.std.proofs.Common.{◌≡◌, ◌≢◌, ℕ, zero, suc, ◌+◌, ◌<◌, Bool, true, false, cond, List, [], ◌∷◌, ◌++◌, Option, Some, None, length, get_or, set, nat_eq, drop, refl, sym, ap, ◌∙◌, arith}
use Rattle.std.proofs.lemmas.Bool.Decides.{nat_tests}
use Rattle.std.proofs.lemmas.List.{get_or-set_same, get_or-set_other}
use Rattle.std.specs.List.{position_from}
use Rattle.swreq_world.proofs.WrittenOrder.{drop_at}

same_numbers : (k i : ℕ) → nat_eq k i ≡ true → k ≡ i
same_numbers k i e = grind (arith, nat_tests)

other_numbers : (k i : ℕ) → nat_eq k i ≡ false → k ≢ i
other_numbers k i e h = grind (arith, nat_tests)

module _ {A : Type 0} where
  -- a list with nothing more at its end
  pub nothing_more : (xs : List (Option A)) (k : ℕ) → get_or (xs ++ None ∷ []) k None ≡ get_or xs k None
  nothing_more [] zero = refl
  nothing_more [] (suc k) = refl
  nothing_more (x ∷ xs) zero = refl
  nothing_more (x ∷ xs) (suc k) = nothing_more xs k

  pub noted : (xs : List (Option A)) (i k : ℕ) (v : Option A) → i < length xs
      → get_or (set xs i v) k None ≡ cond (nat_eq k i) v (get_or xs k None)
  noted xs i k v h = by (nat_eq k i) refl
    where
      by : (b : Bool) → nat_eq k i ≡ b → get_or (set xs i v) k None ≡ cond b v (get_or xs k None)
      by true e = let s : k ≡ i = same_numbers k i e in ap (λ (j : ℕ). get_or (set xs i v) j None) s ∙ get_or-set_same xs i v None h
      by false e = get_or-set_other xs i k v None (other_numbers k i e)

  -- the place of the first that passes, one more at the front
  pub place_before : (p : A → Bool) (xs : List A) (i : ℕ) (d : A) (old new : Option ℕ) → i < length xs
      → new ≡ cond (p (get_or xs i d)) (Some i) old → old ≡ position_from p (i + 1) (drop (i + 1) xs) → new ≡ position_from p i (drop i xs)
  place_before p xs i d old new h n o =
      n ∙ (λ j. cond (p (get_or xs i d)) (Some i) (o j))
      ∙ sym (ap (position_from p i) (drop_at xs i (get_or xs i d) h (get_or_same xs i d h)))
    where
      get_or_same : (ys : List A) (k : ℕ) (e : A) → k < length ys → get_or ys k e ≡ get_or ys k (get_or ys k e)
      get_or_same [] k e l = absurd (omega arith)
      get_or_same (y ∷ ys) zero e l = refl
      get_or_same (y ∷ ys) (suc k) e l = get_or_same ys k e (omega arith)
