-- The matrix of a test, and that of rows.
use Rattle.std.proofs.Common.{◌≡◌, ◌∙◌, ◌⊎◌, inl, inr, ap, refl, subst, sym, ℕ, ◌+◌, ◌<◌, ◌≤◌, arith, Bool, true, false, List, [], Option, Some, None, length, map, get_or, true≢false}
use Rattle.std.specs.List.{range_with_len}
use Rattle.std.proofs.lemmas.Bool.{cases_lt}
use Rattle.std.proofs.lemmas.List.{get_or_past}
use Rattle.std.proofs.lemmas.List.FromFn.{get_or-map-range_with_len, length-map-range_with_len}
use Rattle.swreq_closure.specs.Chains.{IsOfPlaces, leads, matrix}
use Rattle.swreq_closure.specs.Walks.{HavePlaces, Rows, matrix_of, row_at, row_has}

nat_zero : (k : ℕ) → 0 + k ≡ k
nat_zero k = omega arith

module _ (n : ℕ) (test : ℕ → ℕ → Bool) where
  row_of_test : (i : ℕ) → i < n → get_or (matrix n test) i [] ≡ map (test i) (range_with_len 0 n)
  row_of_test i h = get_or-map-range_with_len (λ k. map (test k) (range_with_len 0 n)) 0 n i i [] h (nat_zero i)

  inside : (i j : ℕ) → i < n → j < n → leads (matrix n test) i j ≡ test i j
  inside i j h k = ap (λ row. get_or row j false) (row_of_test i h) ∙ get_or-map-range_with_len (test i) 0 n j j false k (nat_zero j)

  past_columns : (i j : ℕ) → i < n → n ≤ j → leads (matrix n test) i j ≡ false
  past_columns i j h k = ap (λ row. get_or row j false) (row_of_test i h)
      ∙ get_or_past (map (test i) (range_with_len 0 n)) j false (subst (λ m. m ≤ j) (sym (length-map-range_with_len (test i) 0 n)) k)

  past_rows : (i j : ℕ) → n ≤ i → leads (matrix n test) i j ≡ false
  past_rows i j h = ap (λ row. get_or row j false) (get_or_past (matrix n test) i []
      (subst (λ m. m ≤ i) (sym (length-map-range_with_len (λ k. map (test k) (range_with_len 0 n)) 0 n)) h))

  -- A matrix tells what its test says, where that is false past its places.
  matrix_tells : ((i j : ℕ) → test i j ≡ true → (i < n) × (j < n)) → (i j : ℕ) → leads (matrix n test) i j ≡ test i j
  matrix_tells within i j = by (cases_lt i n) (cases_lt j n) (test i j) refl
    where
      by : (i < n) ⊎ (n ≤ i) → (j < n) ⊎ (n ≤ j) → (b : Bool) → test i j ≡ b → leads (matrix n test) i j ≡ test i j
      by a b true e = inside i j (within i j e).0 (within i j e).1
      by (inl h) (inl k) false e = inside i j h k
      by (inl h) (inr k) false e = past_columns i j h k ∙ sym e
      by (inr h) b false e = past_rows i j h ∙ sym e

module _ (rows : Rows) (have : HavePlaces rows) where
  abbrev has_in : ℕ → ℕ → Bool
  has_in i j = row_has (row_at rows i) j

  begins_inside : (i j : ℕ) → has_in i j ≡ true → i < length rows
  begins_inside i j t = elim (cases_lt i (length rows)) [
    | inl h ↦ h
    | inr h ↦ absurd (true≢false (sym t ∙ ap (λ r. row_has r j) (get_or_past rows i None h)))
  ]

  pub rows_tell : (i j : ℕ) → leads (matrix_of rows) i j ≡ has_in i j
  rows_tell = matrix_tells (length rows) has_in (λ i j t. (begins_inside i j t, have i j t))

  pub rows_of_places : IsOfPlaces (length rows) (matrix_of rows)
  rows_of_places = λ t. matrix (length rows) (λ i j. sym (rows_tell i j) t)
