-- How many numbers are in a set.
use Rattle.std.proofs.Common.{◌≡◌, ℕ, zero, suc, ◌+◌, ◌*◌, ◌/◌, ◌%◌, ◌^◌, ◌<◌, ◌≤◌, ◌⊎◌, inl, inr, ⊎_elim, min, Bool, true, false, cond, ◌&&◌, List, length, get_or, nat_eq, bit_and, refl, sym, ap, subst, ◌∙◌, arith}
use Rattle.std.specs.Int.{bit_at}
use Rattle.std.specs.Int.Count.{ones, ones_in}
use Rattle.std.proofs.Math.Bool.{and-false}
use Rattle.std.proofs.Math.Nat.{mod-lt, div-lt_iff_lt-mul, lt_of_le_of_lt, pow-succ'}
use Rattle.std.proofs.lemmas.Bool.{cases_lt}
use Rattle.std.proofs.lemmas.List.{get_or_past, get_or_default}
use Rattle.std.proofs.lemmas.Nat.{and_le_l, ones_cat, div-add-mod', pow_pos}
use Rattle.std.proofs.lemmas.Nat.Bits.{bit_at_and, bit_at-lt, bit_at_cat_low}
use Rattle.swreq_closure.specs.Bits.{has, room, count_below}
use Rattle.swreq_closure.proofs.Sets.{none_in_zeros}

-- ---- numbers that pass a test

pub count_same : (f g : ℕ → Bool) (n : ℕ) → ((k : ℕ) → k < n → f k ≡ g k) → count_below f n ≡ count_below g n
count_same f g zero h = refl
count_same f g (suc n) h =
    let before = count_same f g n (λ k l. h k (omega arith)) in
    let last = h n (omega arith) in
    (λ i. before i + cond (last i) 1 0)

pub count_none : (f : ℕ → Bool) (n : ℕ) → ((k : ℕ) → f k ≡ false) → count_below f n ≡ 0
count_none f zero h = refl
count_none f (suc n) h = (λ i. count_none f n h i + cond (h n i) 1 0)

case_le : (b : Bool) (m n : ℕ) → m ≤ n → m + cond b 1 0 ≤ suc n
case_le true m n h = omega arith
case_le false m n h = omega arith

pub count_le : (f : ℕ → Bool) (n : ℕ) → count_below f n ≤ n
count_le f zero = omega arith
count_le f (suc n) = case_le (f n) (count_below f n) n (count_le f n)

plus_zero : (n : ℕ) → n + 0 ≡ n
plus_zero n = omega arith

plus_suc : (m n : ℕ) → m + suc n ≡ suc (m + n)
plus_suc m n = omega arith

plus_assoc : (a b c : ℕ) → a + b + c ≡ a + (b + c)
plus_assoc a b c = omega arith

plus_comm : (a b : ℕ) → a + b ≡ b + a
plus_comm a b = omega arith

pub count_parts : (f : ℕ → Bool) (m n : ℕ) → count_below f (m + n) ≡ count_below f m + count_below (λ k. f (m + k)) n
count_parts f m zero = ap (count_below f) (plus_zero m) ∙ sym (plus_zero (count_below f m))
count_parts f m (suc n) =
    ap (count_below f) (plus_suc m n)
    ∙ ap (λ c. c + cond (f (m + n)) 1 0) (count_parts f m n)
    ∙ plus_assoc (count_below f m) (count_below (λ k. f (m + k)) n) (cond (f (m + n)) 1 0)

module _ (f : ℕ → Bool) where
  past : (m d : ℕ) → ((k : ℕ) → m ≤ k → f k ≡ false) → count_below f (m + d) ≡ count_below f m
  past m d h =
      count_parts f m d
      ∙ ap (λ c. count_below f m + c) (count_none (λ k. f (m + k)) d (λ k. h (m + k) (omega arith)))
      ∙ plus_zero (count_below f m)

  -- where none passes from either number on
  pub count_ends : (m n : ℕ) → ((k : ℕ) → m ≤ k → f k ≡ false) → ((k : ℕ) → n ≤ k → f k ≡ false) → count_below f m ≡ count_below f n
  count_ends m n h g = sym (past m n h) ∙ ap (count_below f) (plus_comm m n) ∙ past n m g

-- ---- the bits of a word

ones_low : (a : ℕ) → a < 2 → cond (nat_eq (a % 2) 1) 1 0 ≡ ones a
unfolding ones ones_in
ones_low zero h = refl
ones_low (suc zero) h = refl
ones_low (suc (suc a)) h = absurd (omega arith)

no_bits : (n : ℕ) → n < 1 → 0 ≡ ones n
unfolding ones ones_in
no_bits zero h = refl
no_bits (suc n) h = absurd (omega arith)

pub ones_count : (d n : ℕ) → n < 2 ^ d → count_below (λ j. nat_eq (bit_at n j) 1) d ≡ ones n
ones_count zero n h = no_bits n h
ones_count (suc d) n h =
    let whole : n / 2 ^ d * 2 ^ d + n % 2 ^ d ≡ n = div-add-mod' n (2 ^ d) in
    let low : n % 2 ^ d < 2 ^ d = mod-lt n (pow_pos d) in
    let top : n / 2 ^ d < 2 = (div-lt_iff_lt-mul (pow_pos d)).1 (subst (λ x. n < x) (pow-succ' 2 d) h) in
    let same : (j : ℕ) → j < d → nat_eq (bit_at n j) 1 ≡ nat_eq (bit_at (n % 2 ^ d) j) 1
    = λ j l. ap (λ b. nat_eq b 1) (ap (λ x. bit_at x j) (sym whole) ∙ bit_at_cat_low (n / 2 ^ d) d (n % 2 ^ d) j l) in
    let lower = count_same (λ j. nat_eq (bit_at n j) 1) (λ j. nat_eq (bit_at (n % 2 ^ d) j) 1) d same ∙ ones_count d (n % 2 ^ d) low in
    let upper = ones_low (n / 2 ^ d) top in
    (λ i. lower i + upper i) ∙ plus_comm (ones (n % 2 ^ d)) (ones (n / 2 ^ d))
    ∙ sym (ones_cat d (n / 2 ^ d) (n % 2 ^ d) low) ∙ ap ones whole

-- ---- numbers of two sets

both : List ℕ → List ℕ → ℕ → Bool
both words other = λ k. has words k && has other k

one_of_each : (x y : ℕ) → x < 2 → y < 2 → (nat_eq x 1 && nat_eq y 1) ≡ nat_eq (min x y) 1
one_of_each zero zero h g = refl
one_of_each zero (suc zero) h g = refl
one_of_each zero (suc (suc y)) h g = absurd (omega arith)
one_of_each (suc zero) zero h g = refl
one_of_each (suc zero) (suc zero) h g = refl
one_of_each (suc zero) (suc (suc y)) h g = absurd (omega arith)
one_of_each (suc (suc x)) y h g = absurd (omega arith)

pub and_has : (a b i : ℕ) → (nat_eq (bit_at a i) 1 && nat_eq (bit_at b i) 1) ≡ nat_eq (bit_at (bit_and a b) i) 1
and_has a b i = one_of_each (bit_at a i) (bit_at b i) (bit_at-lt a i) (bit_at-lt b i) ∙ ap (λ c. nat_eq c 1) (sym (bit_at_and a b i))

module _ (words other : List ℕ) where
  word_bits : (k j : ℕ) → j < 64
      → (has words (64 * k + j) && has other (64 * k + j)) ≡ nat_eq (bit_at (bit_and (get_or words k 0) (get_or other k 0)) j) 1
  word_bits k j l =
      let at : (64 * k + j) / 64 ≡ k = omega (arith, l) in
      let bit : (64 * k + j) % 64 ≡ j = omega (arith, l) in
      (λ i. nat_eq (bit_at (get_or words (at i) 0) (bit i)) 1 && nat_eq (bit_at (get_or other (at i) 0) (bit i)) 1)
      ∙ and_has (get_or words k 0) (get_or other k 0) j

  -- one word more
  pub count_word : (k : ℕ) → bit_and (get_or words k 0) (get_or other k 0) < 2 ^ 64
      → count_below (λ j. has words j && has other j) (64 * (k + 1))
      ≡ count_below (λ j. has words j && has other j) (64 * k) + ones (bit_and (get_or words k 0) (get_or other k 0))
  count_word k h =
      let test : ℕ → Bool = λ j. has words j && has other j in
      let word = bit_and (get_or words k 0) (get_or other k 0) in
      let size : 64 * (k + 1) ≡ 64 * k + 64 = omega arith in
      ap (count_below test) size ∙ count_parts test (64 * k) 64
      ∙ ap (λ c. count_below test (64 * k) + c)
      (count_same (λ j. test (64 * k + j)) (λ j. nat_eq (bit_at word j) 1) 64 (λ j l. word_bits k j l) ∙ ones_count 64 word h)

  pub count_step : (k w v count : ℕ) → k < length words → k < length other → w ≡ get_or words k w → v ≡ get_or other k v → w < 2 ^ 64
      → count ≡ count_below (λ j. has words j && has other j) (64 * k)
      → count + ones (bit_and w v) ≡ count_below (λ j. has words j && has other j) (64 * (k + 1))
  count_step k w v count l m e g small h =
      let word : bit_and (get_or words k 0) (get_or other k 0) ≡ bit_and w v
      = (λ i. bit_and ((get_or_default words k 0 w l ∙ sym e) i) ((get_or_default other k 0 v m ∙ sym g) i)) in
      let less = and_le_l w v in
      let fits : bit_and w v < 2 ^ 64 = lt_of_le_of_lt less small in
      (λ i. h i + ones (sym word i)) ∙ sym (count_word k (subst (λ x. x < 2 ^ 64) (sym word) fits))

none_past : (words : List ℕ) (k : ℕ) → room words ≤ k → has words k ≡ false
none_past words k h =
    let beyond : length words ≤ k / 64 = omega (arith, h) in
    none_in_zeros words k (get_or_past words (k / 64) 0 beyond)

module _ (words other : List ℕ) where
  none_left : (k : ℕ) → room words ≤ k → (has words k && has other k) ≡ false
  none_left k h = ap (λ b. b && has other k) (none_past words k h)

  none_right : (k : ℕ) → room other ≤ k → (has words k && has other k) ≡ false
  none_right k h = ap (λ b. has words k && b) (none_past other k h) ∙ and-false (has words k)

  least : (m n k : ℕ) → k ≡ min m n → (k ≡ m) ⊎ (k ≡ n)
  least m n k e = ⊎_elim (λ l. inl (omega (arith, e, l))) (λ g. inr (omega (arith, e, g))) (cases_lt m n)

  -- after the last word of either set
  pub count_all : (k : ℕ) → k ≡ min (length words) (length other)
      → count_below (λ j. has words j && has other j) (64 * k) ≡ count_below (λ j. has words j && has other j) (room other)
  count_all k e =
      count_ends (λ j. has words j && has other j) (64 * k) (room other) (from (least (length words) (length other) k e)) none_right
    where
      from : (k ≡ length words) ⊎ (k ≡ length other) → (j : ℕ) → 64 * k ≤ j → (has words j && has other j) ≡ false
      from (inl e) j h = none_left j (subst (λ n. 64 * n ≤ j) e h)
      from (inr e) j h = none_right j (subst (λ n. 64 * n ≤ j) e h)

-- ---- numbers of one set

module _ (words : List ℕ) where
  pub alone_bits : (k j : ℕ) → j < 64 → has words (64 * k + j) ≡ nat_eq (bit_at (get_or words k 0) j) 1
  alone_bits k j l =
      let at : (64 * k + j) / 64 ≡ k = omega (arith, l) in
      let bit : (64 * k + j) % 64 ≡ j = omega (arith, l) in
      (λ i. nat_eq (bit_at (get_or words (at i) 0) (bit i)) 1)

  -- one word more
  pub count_alone : (k : ℕ) → get_or words k 0 < 2 ^ 64
      → count_below (has words) (64 * (k + 1)) ≡ count_below (has words) (64 * k) + ones (get_or words k 0)
  count_alone k h =
      let size : 64 * (k + 1) ≡ 64 * k + 64 = omega arith in
      ap (count_below (has words)) size ∙ count_parts (has words) (64 * k) 64
      ∙ ap (λ c. count_below (has words) (64 * k) + c)
      (count_same (λ j. has words (64 * k + j)) (λ j. nat_eq (bit_at (get_or words k 0) j) 1) 64 (alone_bits k)
      ∙ ones_count 64 (get_or words k 0) h)

  -- the words that are whole below a bound, as far as there are words
  pub count_whole : (whole bound : ℕ) → whole ≡ min (length words) (bound / 64)
      → count_below (has words) (64 * whole) ≡ count_below (has words) (bound / 64 * 64)
  count_whole whole bound e = from (least words words (length words) (bound / 64) whole e)
    where
      from : (whole ≡ length words) ⊎ (whole ≡ bound / 64)
          → count_below (has words) (64 * whole) ≡ count_below (has words) (bound / 64 * 64)
      from (inl s) =
          count_ends (has words) (64 * whole) (bound / 64 * 64) (λ j h. none_past words j (subst (λ n. 64 * n ≤ j) s h))
          (λ j h. none_past words j (omega (arith, e, s, h)))
      from (inr s) = let size : 64 * whole ≡ bound / 64 * 64 = omega (arith, s) in ap (count_below (has words)) size
