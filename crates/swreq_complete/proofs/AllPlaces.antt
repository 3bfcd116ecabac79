-- The places that the trie gives are all places of pairs with the number as the greater one.
use Rattle.std.proofs.Common.{◌≡◌, ◌≢◌, ℕ, suc, ◌⊎◌, inl, inr, refl, sym, ◌∙◌, ap, subst, arith, List, ◌++◌, max, Some}
use Rattle.std.specs.List.{slice_get}
use Rattle.std.proofs.lemmas.Bool.{cases_lt}
use Rattle.swreq_rule.specs.swreq_word.declared.symbols.Symbol.{Symbol}
use Rattle.swreq_rule.specs.swreq_word.Overlap.{Overlap}
use Rattle.swreq_rule.specs.declared.rules.Rule.{Rule}
use Rattle.swreq_rule.specs.declared.rules.Place.{Place}
use Rattle.swreq_rule.specs.Steps.{RuleAt}
use Rattle.swreq_pair.specs.Pairs.{HasPair, IsPair, OverlapPair, ContainmentPair}
use Rattle.swreq_rule.proofs.Numbers.{one_rule}
use Rattle.swreq_trie.specs.declared.trie.Entry.{Entry}
use Rattle.swreq_trie.specs.Places.{Meets, IsPlace, ArePlaces}
use Rattle.swreq_complete.specs.Index.{IsIndexOf}
use Rattle.swreq_complete.specs.Progress.{AreAllPlaces}
use Rattle.swreq_complete.proofs.Indexing.{of_rule}

module _ (rules : List Rule) (f s : Rule) (i j at : ℕ) (fi : RuleAt rules i f) (sj : RuleAt rules j s) where
  pair_of : Meets f.left s.left at → i ≢ j → HasPair rules (record { i = i; j = j; at = at })
  pair_of (inl o) apart = (
    f.right ++ o.after,
    o.before ++ s.right,
    record { first = f; second = s; first_at = fi; second_at = sj; kind = inl (record { overlap = o; left_is = refl; right_is = refl }) },
  )
  pair_of (inr o) apart = (
    f.right,
    o.before ++ (s.right ++ o.after),
    record {
      first = f;
      second = s;
      first_at = fi;
      second_at = sj;
      kind = inr (apart, record { containment = o; left_is = refl; right_is = refl });
    },
  )

meets_of : (f s : Rule) (at : ℕ) (l r : List Symbol) → OverlapPair f s at l r ⊎ ContainmentPair f s at l r → Meets f.left s.left at
meets_of f s at l r (inl o) = inl o.overlap
meets_of f s at l r (inr o) = inr o.containment

place_is : (p : Place) (i j : ℕ) → p.i ≡ i → p.j ≡ j → p ≡ record { i = i; j = j; at = p.at }
place_is p i j e f = λ x. record { i = e x; j = f x; at = p.at }

module _ (stored : List Entry) (rules : List Rule) (index : IsIndexOf stored rules) (k : ℕ) (rule : Rule)
    (is : slice_get rules k ≡ Some rule)
    (places : List Place) where
  has_pair : (p : Place) → IsPlace stored rule.left (suc k) p
      → (max p.i p.j ≡ suc k) × HasPair rules p
  has_pair p (inl h) =
      let o = h.2 in
      let w = of_rule stored rules index h.0 o.entry o.is_entry in
      let left = ap (λ (x : Entry). x.left) w.2 in
      let number : o.entry.number ≡ suc h.0 = ap (λ (x : Entry). x.number) w.2 in
      let below = o.below in
      let q = pair_of rules w.0 rule (suc h.0) (suc k) h.1 (h.0, refl, w.1) (k, refl, is) (subst (λ x. Meets x rule.left h.1) left o.meets)
      (omega (arith, below, number)) in
      let e : p ≡ record { i = suc h.0; j = suc k; at = h.1 } = o.place_is ∙ ap (λ n. record { i = n; j = suc k; at = h.1 }) number in
      subst (λ (x : Place). (max x.i x.j ≡ suc k) × HasPair rules x) (sym e) (omega (arith, below, number), q)
  has_pair p (inr (inl h)) =
      let o = h.2 in
      let w = of_rule stored rules index h.0 o.entry o.is_entry in
      let left = ap (λ (x : Entry). x.left) w.2 in
      let number : o.entry.number ≡ suc h.0 = ap (λ (x : Entry). x.number) w.2 in
      let below = o.below in
      let q = pair_of rules rule w.0 (suc k) (suc h.0) h.1 (k, refl, is) (h.0, refl, w.1) (subst (λ x. Meets rule.left x h.1) left o.meets)
      (omega (arith, below, number)) in
      let e : p ≡ record { i = suc k; j = suc h.0; at = h.1 } = o.place_is ∙ ap (λ n. record { i = suc k; j = n; at = h.1 }) number in
      subst (λ (x : Place). (max x.i x.j ≡ suc k) × HasPair rules x) (sym e) (omega (arith, below, number), q)
  has_pair p (inr (inr h)) =
      let o = h.1 in
      subst (λ (x : Place). (max x.i x.j ≡ suc k) × HasPair rules x) (sym o.place_is) (
        omega arith,
        (
          rule.right ++ o.overlap.after,
          o.overlap.before ++ rule.right,
          record {
            first = rule;
            second = rule;
            first_at = (k, refl, is);
            second_at = (k, refl, is);
            kind = inl (record { overlap = o.overlap; left_is = refl; right_is = refl });
          },
        ),
      )

  is_rule : (n : ℕ) (r : Rule) → RuleAt rules n r → n ≡ suc k → r ≡ rule
  is_rule n r a e = one_rule rules n r rule a (k, e, is)

  is_place : (p : Place) (l r : List Symbol) → IsPair rules p l r → max p.i p.j ≡ suc k → IsPlace stored rule.left (suc k) p
  is_place p l r q e =
      let kinds : OverlapPair q.first q.second p.at l r ⊎ ContainmentPair q.first q.second p.at l r =
      elim q.kind [ inl o ↦ inl o | inr o ↦ inr o.1 ] in
      let m = meets_of q.first q.second p.at l r kinds in
      let a = q.first_at in
      let b = q.second_at in
      elim (cases_lt p.i (suc k)) [
        | inl x ↦ (let j : p.j ≡ suc k = omega (arith, e, x) in
            let i = a.1 in
            inl (
              a.0,
              p.at,
              record {
                entry = record { left = q.first.left; number = suc a.0 };
                is_entry = index.each a.0 q.first a.2;
                below = omega (arith, i, x);
                meets = subst (λ (y : Rule). Meets q.first.left y.left p.at) (is_rule p.j q.second b j) m;
                place_is = place_is p (suc a.0) (suc k) i j;
              },
            ))
        | inr x ↦ (let i : p.i ≡ suc k = omega (arith, e, x) in
            let same = is_rule p.i q.first a i in
            elim (cases_lt p.j (suc k)) [
              | inl y ↦ (let j = b.1 in
                  inr (inl (
                    b.0,
                    p.at,
                    record {
                      entry = record { left = q.second.left; number = suc b.0 };
                      is_entry = index.each b.0 q.second b.2;
                      below = omega (arith, j, y);
                      meets = subst (λ (z : Rule). Meets z.left q.second.left p.at) same m;
                      place_is = place_is p (suc k) (suc b.0) i j;
                    },
                  )))
              | inr y ↦ (let j : p.j ≡ suc k = omega (arith, e, y) in
                  inr (inr (
                    p.at,
                    record {
                      overlap = elim q.kind [
                        | inl o ↦ subst (λ (z : Rule). Overlap z.left rule.left p.at) same
                            (subst (λ (z : Rule). Overlap q.first.left z.left p.at) (is_rule p.j q.second b j) o.overlap)
                        | inr o ↦ absurd (o.0 (i ∙ sym j))
                      ];
                      place_is = place_is p (suc k) (suc k) i j;
                    },
                  )))
            ])
      ]

  pub are_all : (greater : ℕ) → greater ≡ suc k → (left : List Symbol) → left ≡ rule.left → ArePlaces stored left greater places
      → AreAllPlaces rules greater places
  are_all greater g left s a = subst (λ n. AreAllPlaces rules n places) (sym g)
      (all_of (subst (λ x. ArePlaces stored x (suc k) places) s (subst (λ n. ArePlaces stored left n places) g a)))
    where
      all_of : ArePlaces stored rule.left (suc k) places → AreAllPlaces rules (suc k) places
      all_of b = record {
        each = λ n p e. has_pair p (b.each n p e);
        all = λ p l r q e. b.all p (is_place p l r q e);
        ordered = b.ordered;
      }
