-- A ranking is one list.
use Rattle.std.proofs.Common.{◌≡◌, ◌⊎◌, ◌∙◌, inl, inr, refl, sym, ap, ap₂, subst, List, [], ◌∷◌, Contains}
use Rattle.std.specs.declared.cmp.Ordering.{Ordering}
use Rattle.std.specs.declared.cmp.Ordering.TheVariants.{Less, Equal, Greater}
use Rattle.std.specs.Cmp.{IsTotalOrder}
use Rattle.std.specs.List.{AllByRecursion}
use Rattle.std.specs.List.Sorted.{IsStrictlySortedBy}
use Rattle.std.specs.Ordering.{ordering_reverse}
use Rattle.std.proofs.lemmas.Cmp.{tied_itself}
use Rattle.swreq_rank.proofs.swreq_lemmas.Members.{first_member, later_member, member_cases, no_member}
use Rattle.swreq_rank.specs.Ranks.{IsRanking}

all_member : {K : Type 0} (P : K → Type 0) (xs : List K) (x : K) → AllByRecursion P xs → Contains xs x → P x
all_member P [] x h c = no_member x c
all_member P (y ∷ xs) x h c = elim (member_cases y x xs c) [ inl e ↦ subst P (sym e) h.0 | inr d ↦ all_member P xs x h.1 d ]

not_less : (o : Ordering) → o ≡ Equal → o ≡ Less → ⊥
not_less o e f = let clash : Equal ≡ Less = sym e ∙ f in cc

module _ {K : Type 0} (R S : K → K → Ordering) (total : IsTotalOrder R) where
  not_itself : (x : K) → R x x ≡ Less → ⊥
  not_itself x h = not_less (R x x) (tied_itself total x) h

  not_back : (x y : K) → R x y ≡ Less → R y x ≡ Less → ⊥
  not_back x y h k = let clash : Greater ≡ Less = ap ordering_reverse (sym h) ∙ sym (total.antisymm y x) ∙ k in cc

  -- Each of two lists has the items of the other, and the two orders agree on these items.
  record AreItems (xs ys : List K) : Type 0 where
    pub agree : (x y : K) → Contains xs x → Contains xs y → R x y ≡ S x y
    pub to : (x : K) → Contains xs x → Contains ys x
    pub from : (x : K) → Contains ys x → Contains xs x

  module _ (x y : K) (xs ys : List K) (after_x : AllByRecursion (λ z. R x z ≡ Less) xs) (after_y : AllByRecursion (λ z. S y z ≡ Less) ys)
      (items : AreItems (x ∷ xs) (y ∷ ys)) where
    same_head : x ≡ y
    same_head = by (member_cases y x ys (items.to x (first_member x xs))) (member_cases x y xs (items.from y (first_member y ys)))
      where
        by : (x ≡ y) ⊎ Contains ys x → (y ≡ x) ⊎ Contains xs y → x ≡ y
        by (inl e) other = e
        by (inr c) (inl e) = sym e
        by (inr c) (inr d) = absurd (not_back x y (all_member (λ z. R x z ≡ Less) xs y after_x d)
            (items.agree y x (later_member x y xs d) (first_member x xs) ∙ all_member (λ z. S y z ≡ Less) ys x after_y c))

    not_again : (z : K) → R x z ≡ Less → z ≡ x → ⊥
    not_again z h e = not_itself x (subst (λ (q : K). R x q ≡ Less) e h)

    rest_to : (z : K) → Contains xs z → Contains ys z
    rest_to z c = elim (member_cases y z ys (items.to z (later_member x z xs c))) [
      | inl e ↦ absurd (not_again z (all_member (λ z. R x z ≡ Less) xs z after_x c) (e ∙ sym same_head))
      | inr d ↦ d
    ]

    rest_from : (z : K) → Contains ys z → Contains xs z
    rest_from z c = elim (member_cases x z xs (items.from z (later_member y z ys c))) [
      | inl e ↦ absurd (not_again z (items.agree x z (first_member x xs) (items.from z (later_member y z ys c))
          ∙ subst (λ (q : K). S q z ≡ Less) (sym same_head) (all_member (λ z. S y z ≡ Less) ys z after_y c)) e)
      | inr d ↦ d
    ]

    rest_items : AreItems xs ys
    rest_items =
        record { agree = λ a b c d. items.agree a b (later_member x a xs c) (later_member x b xs d); to = rest_to; from = rest_from }

  -- two lists with the same items, each sorted by its order, are one list if the orders agree
  same_sorted : (xs ys : List K) → IsStrictlySortedBy R xs → IsStrictlySortedBy S ys → AreItems xs ys → xs ≡ ys
  unfolding IsStrictlySortedBy
  same_sorted [] [] s t items = refl
  same_sorted [] (y ∷ ys) s t items = no_member y (items.from y (first_member y ys))
  same_sorted (x ∷ xs) [] s t items = no_member x (items.to x (first_member x xs))
  same_sorted (x ∷ xs) (y ∷ ys) s t items =
      ap₂ (λ (z : K) (zs : List K). z ∷ zs) (same_head x y xs ys s.0 t.0 items)
      (same_sorted xs ys s.1 t.1 (rest_items x y xs ys s.0 t.0 items))

  pub one_ranking : (P Q : K → Type 0) (xs ys : List K) → IsRanking R P xs → IsRanking S Q ys → ((x y : K) → P x → P y → R x y ≡ S x y)
      → ((x : K) → P x → Q x) → ((x : K) → Q x → P x) → xs ≡ ys
  one_ranking P Q xs ys a b agree to from =
      same_sorted xs ys a.sorted b.sorted (record {
        agree = λ x y c d. agree x y ((a.same x).0 c) ((a.same y).0 d);
        to = λ x c. (b.same x).1 (to x ((a.same x).0 c));
        from = λ x c. (a.same x).1 (from x ((b.same x).0 c));
      })
