-- Parts of a list, by flags.
use Rattle.std.proofs.Common.{◌≡◌, ◌∙◌, refl, ap, ℕ, zero, suc, ◌<◌, arith, Bool, true, false, List, [], ◌∷◌, ◌++◌, length, replicate, take, drop, slice_get, Some}
use Rattle.swreq_valid.specs.Flags.{chosen}
use Rattle.swreq_reqsig.specs.GoingThrough.{without}

-- ---- flags

pub all_set : (count n : ℕ) → n < count → slice_get (replicate count true) n ≡ Some true
all_set zero n l = absurd (omega (arith, l))
all_set (suc count) zero l = refl
all_set (suc count) (suc n) l = all_set count n (omega (arith, l))

pub flag_before : (bs : List Bool) (n m : ℕ) → m < n → slice_get (without bs n) m ≡ slice_get bs m
flag_before [] n m l = refl
flag_before (b ∷ bs) zero m l = absurd (omega (arith, l))
flag_before (b ∷ bs) (suc n) zero l = refl
flag_before (b ∷ bs) (suc n) (suc m) l = flag_before bs n m (omega (arith, l))

pub drop_set : (bs : List Bool) (n : ℕ) → slice_get bs n ≡ Some true → drop n bs ≡ true ∷ drop (suc n) bs
drop_set [] n e = absurd cc
drop_set (b ∷ bs) zero e = let set : b ≡ true = cc in ap (λ z. z ∷ bs) set
drop_set (b ∷ bs) (suc n) e = drop_set bs n e

pub drop_unset : (bs : List Bool) (n : ℕ) → slice_get bs n ≡ Some true → drop n (without bs n) ≡ false ∷ drop (suc n) bs
drop_unset [] n e = absurd cc
drop_unset (b ∷ bs) zero e = refl
drop_unset (b ∷ bs) (suc n) e = drop_unset bs n e

-- ---- parts

module _ {A : Type 0} where
  pub chosen-append : (xs ys : List A) (bs : List Bool)
      → chosen (xs ++ ys) bs ≡ chosen xs (take (length xs) bs) ++ chosen ys (drop (length xs) bs)
  chosen-append [] ys bs = refl
  chosen-append (x ∷ xs) [] [] = refl
  chosen-append (x ∷ xs) (y ∷ ys) [] = refl
  chosen-append (x ∷ xs) ys (true ∷ bs) = ap (λ z. x ∷ z) (chosen-append xs ys bs)
  chosen-append (x ∷ xs) ys (false ∷ bs) = chosen-append xs ys bs

  -- where all flags in front are set
  pub chosen_behind : (front rest : List A) (bs : List Bool) → ((m : ℕ) → m < length front → slice_get bs m ≡ Some true)
      → chosen (front ++ rest) bs ≡ front ++ chosen rest (drop (length front) bs)
  chosen_behind [] rest bs h = refl
  chosen_behind (x ∷ front) rest [] h = absurd (let e = h 0 (omega arith) in cc)
  chosen_behind (x ∷ front) rest (b ∷ bs) h =
      let first = h 0 (omega arith) in
      let set : b ≡ true = cc in
      ap (λ z. chosen (x ∷ (front ++ rest)) (z ∷ bs)) set
      ∙ ap (λ z. x ∷ z) (chosen_behind front rest bs (λ m l. h (suc m) (omega (arith, l))))
