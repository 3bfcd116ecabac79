-- Searches among items that rise.
use Rattle.std.proofs.Common.{◌≡◌, ℕ, ◌+◌, ◌<◌, ◌≤◌, ⊎_elim, List, length, get_or, slice_get, Some, Contains, refl, sym, ap, subst, ◌∙◌, arith}
use Rattle.std.proofs.lemmas.List.{get_or_default}
use Rattle.std.proofs.lemmas.Bool.{cases_eq, cases_lt}
use Rattle.std.proofs.lemmas.Option.{slice_get-get_or}
use Rattle.std.specs.declared.cmp.Ordering.{Ordering}
use Rattle.std.specs.declared.cmp.Ordering.TheVariants.{Less, Equal, Greater}
use Rattle.std.specs.Ordering.{ordering_reverse, ordering_index}
use Rattle.std.specs.Cmp.{IsTotalOrder}
use Rattle.std.specs.List.{HoldsAt}
use Rattle.std.specs.List.Sorted.{IsNonDecreasingBy, IsPartitionPoint}
use Rattle.std.proofs.lemmas.Cmp.{tied_itself}
use Rattle.swreq_lemmas.proofs.Numbers.{below, above}
use Rattle.swreq_rank.specs.Ranks.{TellsApart}
use Rattle.swreq_rank.proofs.Rising.{IsRising}

module _ {K : Type 0} (cmp : K → K → Ordering) (total : IsTotalOrder cmp) (apart : TellsApart cmp) (xs : List K)
    (rising : IsRising cmp xs) (x d : K) where
  abbrev pub by : ℕ → Ordering
  by k = cmp (get_or xs k d) x

  turned : (y z : K) → cmp y z ≡ Greater → cmp z y ≡ Less
  turned y z e = total.antisymm z y ∙ ap ordering_reverse e

  turned_back : (y z : K) → cmp y z ≡ Less → cmp z y ≡ Greater
  turned_back y z e = total.antisymm z y ∙ ap ordering_reverse e

  pub less_to : (m k : ℕ) → k < m + 1 → m < length xs → by m ≡ Less → by k ≡ Less
  less_to m k h l e =
      ⊎_elim (λ s. subst (λ n. by n ≡ Less) (sym s) e)
      (λ n. total.trans (get_or xs k d) (get_or xs m d) x (rising k m d (below k m h n) l) e) (cases_eq k m)

  pub more_from : (m k : ℕ) → m ≤ k → k < length xs → by m ≡ Greater → by k ≡ Greater
  more_from m k h l e =
      ⊎_elim (λ s. subst (λ n. by n ≡ Greater) (sym s) e)
      (λ n. turned_back x (get_or xs k d)
      (total.trans x (get_or xs m d) (get_or xs k d) (turned (get_or xs m d) x e) (rising m k d (above k m h n) l))) (cases_eq k m)

  pub found : (m : ℕ) → m < length xs → by m ≡ Equal → slice_get xs m ≡ Some x
  found m l e = slice_get-get_or xs m d l ∙ ap Some (apart (get_or xs m d) x e)

  pub absent : (low high : ℕ) → high ≤ low → ((k : ℕ) → k < low → by k ≡ Less)
      → ((k : ℕ) → high ≤ k → k < length xs → by k ≡ Greater) → Contains xs x → ⊥
  absent low high h before after c =
      let e : by c.0 ≡ Equal = ap (λ y. cmp y x) (get_or_default xs c.0 d x c.1 ∙ c.2) ∙ tied_itself total x in
      ⊎_elim (λ l. let s = sym (before c.0 l) ∙ e in absurd cc)
      (λ g. let s = sym (after c.0 (from c.0 low high g h) c.1) ∙ e in absurd cc) (cases_lt c.0 low)
    where
      from : (k low high : ℕ) → low ≤ k → high ≤ low → high ≤ k
      from k low high g h = omega arith

  index_by : (o q : Ordering) → (q ≡ Less → o ≡ Less) → (o ≡ Greater → q ≡ Greater) → ordering_index o ≤ ordering_index q
  index_by Less q f g = omega arith
  index_by Equal Less f g = let e = f refl in absurd cc
  index_by Equal Equal f g = omega arith
  index_by Equal Greater f g = omega arith
  index_by Greater Less f g = let e = f refl in absurd cc
  index_by Greater Equal f g = let e = g refl in absurd cc
  index_by Greater Greater f g = omega arith

  pub index_rises : (i j : ℕ) → i ≤ j → j < length xs → ordering_index (by i) ≤ ordering_index (by j)
  index_rises i j h l = index_by (by i) (by j) (less_to j i (omega arith) l) (more_from i j h l)

module _ {K : Type 0} (cmp : K → K → Ordering) (total : IsTotalOrder cmp) (apart : TellsApart cmp) (xs : List K)
    (rising : IsRising cmp xs) (x : K) where
  pub is_found : (i : ℕ) → i < length xs → HoldsAt (λ y. cmp y x ≡ Equal) xs i → slice_get xs i ≡ Some x
  is_found i l h = found cmp total apart xs rising x x i l (h x)

  rises : IsNonDecreasingBy (λ y. ordering_index (cmp y x)) xs
  rises i j d h l = index_rises cmp total apart xs rising x d i j h l

  pub is_absent : (i : ℕ) → (IsNonDecreasingBy (λ y. ordering_index (cmp y x)) xs
      → IsPartitionPoint (λ y. cmp y x ≡ Less) (λ y. cmp y x ≡ Greater) xs i) → Contains xs x → ⊥
  is_absent i h =
      absent cmp total apart xs rising x x i i (omega arith) (λ k l. (h rises).0 k x (omega arith) l) (λ k g l. (h rises).1 k x g l)
