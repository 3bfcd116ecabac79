-- Lists that are strictly sorted.
use Rattle.std.proofs.Common.{◌≡◌, ℕ, suc, ◌<◌, List, [], ◌∷◌, ◌++◌, length, map, get_or, slice_get, Some, sym, subst, ◌∙◌, arith, ⊎_elim}
use Rattle.std.specs.declared.cmp.Ordering.{Ordering}
use Rattle.std.specs.declared.cmp.Ordering.TheVariants.{Less}
use Rattle.std.specs.Cmp.{IsTotalOrder}
use Rattle.std.specs.List.{AllByRecursion}
use Rattle.std.specs.List.Sorted.{IsStrictlySortedBy}
use Rattle.std.proofs.lemmas.Bool.{cases_lt, cases_eq}
use Rattle.std.proofs.lemmas.Cmp.{tied_itself}
use Rattle.std.proofs.lemmas.Map.Keys.{Less-from_sorted}
use Rattle.std.proofs.lemmas.Option.{slice_get_within, get_or_from_slice_get}
use Rattle.swreq_lemmas.proofs.Members.{each_append, each_by_recursion}
use Rattle.swreq_lemmas.proofs.Numbers.{above}

-- Each item stands before those after it.
abbrev pub IsRising : {K : Type 0} → (K → K → Ordering) → List K → Type 0
IsRising {K} cmp xs = (i j : ℕ) (d : K) → i < j → j < length xs → cmp (get_or xs i d) (get_or xs j d) ≡ Less

pub rising_from_sorted : {K : Type 0} (cmp : K → K → Ordering) (xs : List K) → IsStrictlySortedBy cmp xs → IsRising cmp xs
rising_from_sorted cmp xs s i j d h l = Less-from_sorted cmp xs i j d s h l

pub sorted_nil : {K : Type 0} (cmp : K → K → Ordering) → IsStrictlySortedBy cmp []
unfolding IsStrictlySortedBy
sorted_nil cmp = tt

pub sorted_from_rising : {K : Type 0} (cmp : K → K → Ordering) (xs : List K) → IsRising cmp xs → IsStrictlySortedBy cmp xs
unfolding IsStrictlySortedBy
sorted_from_rising cmp [] r = tt
sorted_from_rising cmp (x ∷ xs) r = (
  each_by_recursion (λ y. cmp x y ≡ Less) xs (λ y c. subst (λ z. cmp x z ≡ Less) c.2 (r 0 (suc c.0) y (omega arith) (omega (arith, c.1)))),
  sorted_from_rising cmp xs (λ i j d h l. r (suc i) (suc j) d (omega arith) (omega arith)),
)

-- ---- an item has one place

module _ {K : Type 0} (cmp : K → K → Ordering) (total : IsTotalOrder cmp) (xs : List K) (rising : IsRising cmp xs) where
  not_before : (i j : ℕ) (x : K) → slice_get xs i ≡ Some x → slice_get xs j ≡ Some x → i < j → ⊥
  not_before i j x p q h =
      let e : cmp x x ≡ Less = (λ k. cmp (sym (get_or_from_slice_get xs i x x p) k) (sym (get_or_from_slice_get xs j x x q) k))
      ∙ rising i j x h (slice_get_within xs j x q) in
      let f = tied_itself total x in
      absurd cc

  pub one_place : (i j : ℕ) (x : K) → slice_get xs i ≡ Some x → slice_get xs j ≡ Some x → i ≡ j
  one_place i j x p q =
      ⊎_elim (λ h. absurd (not_before i j x p q h))
      (λ h. ⊎_elim (λ e. e) (λ n. absurd (not_before j i x q p (above i j h n))) (cases_eq i j)) (cases_lt i j)

-- ---- parts

module _ {K : Type 0} (cmp : K → K → Ordering) where
  pub sorted_append : (xs ys : List K) → IsStrictlySortedBy cmp xs → IsStrictlySortedBy cmp ys
      → AllByRecursion (λ x. AllByRecursion (λ y. cmp x y ≡ Less) ys) xs → IsStrictlySortedBy cmp (xs ++ ys)
  unfolding IsStrictlySortedBy
  sorted_append [] ys s t a = t
  sorted_append (x ∷ xs) ys s t a = (each_append (λ y. cmp x y ≡ Less) xs ys s.0 a.0, sorted_append xs ys s.1 t a.1)

module _ {K A : Type 0} (cmp : K → K → Ordering) (order : A → A → Ordering) (f : K → A)
    (keeps : (x y : K) → cmp x y ≡ Less → order (f x) (f y) ≡ Less) where
  all_map : (x : K) (ys : List K) → AllByRecursion (λ y. cmp x y ≡ Less) ys → AllByRecursion (λ y. order (f x) y ≡ Less) (map f ys)
  all_map x [] a = tt
  all_map x (y ∷ ys) a = (keeps x y a.0, all_map x ys a.1)

  pub sorted_map : (xs : List K) → IsStrictlySortedBy cmp xs → IsStrictlySortedBy order (map f xs)
  unfolding IsStrictlySortedBy
  sorted_map [] s = tt
  sorted_map (x ∷ xs) s = (all_map x xs s.0, sorted_map xs s.1)
