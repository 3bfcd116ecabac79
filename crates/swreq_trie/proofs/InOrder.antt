-- Keys in order, and the places that they stand for.
use Rattle.std.proofs.Common.{◌≡◌, ◌⊎◌, inl, inr, ℕ, suc, ◌+◌, max, false, List, [], ◌∷◌, ◌++◌, length, get_or, refl, sym, ◌∙◌, ap, subst, arith, Some, true≢false}
use Rattle.std.specs.List.{slice_get, Contains}
use Rattle.std.specs.List.Sorted.{IsSorted, IsPermutation}
use Rattle.std.specs.Ordering.{nat_cmp, ordering_then, is_lt}
use Rattle.std.specs.Cmp.{IsTotalOrder}
use Rattle.std.specs.declared.cmp.Ordering.{Ordering}
use Rattle.std.specs.declared.cmp.Ordering.TheVariants.{Less, Equal, Greater}
use Rattle.std.proofs.lemmas.Bool.{cases_eq}
use Rattle.std.proofs.lemmas.Cmp.{on_total, then_total, nat_cmp_total, tied_itself}
use Rattle.std.proofs.lemmas.List.Sorted.{Contains-permutation, IsPermutation-sym}
use Rattle.std.proofs.lemmas.Option.{slice_get_within, slice_get-get_or, get_or_from_slice_get}
use Rattle.swreq_rule.specs.swreq_word.declared.symbols.Symbol.{Symbol}
use Rattle.swreq_rule.proofs.swreq_lemmas.Orderings.{then_equal}
use Rattle.swreq_rule.specs.swreq_word.OrderLaws.{then_less, nat_equal}
use Rattle.swreq_rule.specs.declared.rules.Place.{Place}
use Rattle.swreq_rule.specs.Places.{place_cmp}
use Rattle.swreq_trie.specs.declared.trie.Entry.{Entry}
use Rattle.swreq_trie.specs.Marks.{Holds}
use Rattle.swreq_trie.specs.Places.{IsPlace, ArePlaces}
use Rattle.swreq_trie.specs.Keys.{Gains, AreTheirPlaces, ArePlacesBelow, place_of, key_of, key_cmp}
use Rattle.swreq_rule.proofs.swreq_lemmas.Elements.{get_cases}
use Rattle.swreq_trie.proofs.Marks.{holds_last, holds_more}

key_total : IsTotalOrder key_cmp
key_total = then_total (then_total (on_total (λ (t : ℕ × ℕ × ℕ). t.0) nat_cmp_total) (on_total (λ (t : ℕ × ℕ × ℕ). t.1) nat_cmp_total))
    (on_total (λ (t : ℕ × ℕ × ℕ). t.2) nat_cmp_total)

key_exact : (a b : ℕ × ℕ × ℕ) → key_cmp a b ≡ Equal → a ≡ b
key_exact a b h =
    let p = then_equal (ordering_then (nat_cmp a.0 b.0) (nat_cmp a.1 b.1)) (nat_cmp a.2 b.2) h in
    let q = then_equal (nat_cmp a.0 b.0) (nat_cmp a.1 b.1) p.0 in
    let e = nat_equal a.0 b.0 q.0 in let f = nat_equal a.1 b.1 q.1 in let g = nat_equal a.2 b.2 p.1 in
    λ i. (e i, f i, g i)

-- a key that is not below another is above it, or is it
not_below : (a b : ℕ × ℕ × ℕ) → is_lt (key_cmp b a) ≡ false → (key_cmp a b ≡ Less) ⊎ (a ≡ b)
not_below a b h = go (key_cmp a b) refl
  where
    go : (o : Ordering) → key_cmp a b ≡ o → (key_cmp a b ≡ Less) ⊎ (a ≡ b)
    go Less e = inl e
    go Equal e = inr (key_exact a b e)
    go Greater e = absurd (let k = key_total.antisymm b a in let l : key_cmp b a ≡ Less = cc in true≢false (sym (ap is_lt l) ∙ h))

next_key : (keys : List (ℕ × ℕ × ℕ)) → IsSorted key_cmp keys → (n : ℕ) (a b : ℕ × ℕ × ℕ) → slice_get keys n ≡ Some a
    → slice_get keys (suc n) ≡ Some b
    → (key_cmp a b ≡ Less) ⊎ (a ≡ b)
next_key keys sorted n a b e f =
    let l = slice_get_within keys (suc n) b f in
    let g : get_or keys n a ≡ a = get_or_from_slice_get keys n a a e in
    let h : get_or keys (n + 1) a ≡ b = get_or_from_slice_get keys (n + 1) b a (subst (λ m. slice_get keys m ≡ Some b) (omega arith) f) in
    not_below a b (subst (λ x. is_lt (key_cmp b x) ≡ false) g (subst (λ x. is_lt (key_cmp x (get_or keys n a)) ≡ false) h
    (sorted n a (omega arith) (omega (arith, l)))))

pub no_places : (keys : List (ℕ × ℕ × ℕ)) → ArePlacesBelow keys 0 []
no_places keys = record {
  each = λ k place e. cc;
  all = λ k key l e. absurd (omega (arith, l));
  ordered = λ j k p q l e f. cc;
  last = λ k place e. cc;
}

module _ (keys : List (ℕ × ℕ × ℕ)) (n : ℕ) (places : List Place) (p : ArePlacesBelow keys n places) where
  -- a key that is the same as the one before it
  pub place_kept : (m : ℕ) (key : ℕ × ℕ × ℕ) → suc m ≡ n → slice_get keys m ≡ Some key → slice_get keys n ≡ Some key
      → ArePlacesBelow keys (n + 1) places
  place_kept m key next e f = record {
    each = p.each;
    all = λ k other l g. elim (cases_eq k n) [
      | inl i ↦ (let h : slice_get keys n ≡ Some other = subst (λ x. slice_get keys x ≡ Some other) i g in
          let same : key ≡ other = cc in p.all m other (omega (arith, next)) (subst (λ x. slice_get keys m ≡ Some x) same e))
      | inr i ↦ p.all k other (omega (arith, l, i)) g
    ];
    ordered = p.ordered;
    last = λ k place g. (let r = p.last k place g in
        let i : r.0 ≡ m = (let a = r.2 in omega (arith, a, next)) in
        let h = subst (λ x. slice_get keys x ≡ Some r.1) i r.3 in
        let same : r.1 ≡ key = cc in
        (n, key, omega arith, f, subst (λ x. (key_cmp (key_of place) x ≡ Less) ⊎ (key_of place ≡ x)) same r.4));
  }

  -- a key that differs from it
  module _ (sorted : IsSorted key_cmp keys) (key : ℕ × ℕ × ℕ) (is : slice_get keys n ≡ Some key)
      (new : (m : ℕ) (other : ℕ × ℕ × ℕ) → suc m ≡ n → slice_get keys m ≡ Some other → slice_get keys n ≡ Some other → ⊥) where
    above : (k : ℕ) (place : Place) → slice_get places k ≡ Some place → key_cmp (key_of place) key ≡ Less
    above k place g =
        let r = p.last k place g in
        elim (next_key keys sorted r.0 r.1 key r.3 (subst (λ x. slice_get keys x ≡ Some key) (sym r.2) is)) [
          | inl l ↦ elim r.4 [ inl m ↦ key_total.trans (key_of place) r.1 key m l | inr m ↦ subst (λ x. key_cmp x key ≡ Less) (sym m) l ]
          | inr e ↦ absurd (new r.0 r.1 r.2 r.3 (subst (λ x. slice_get keys n ≡ Some x) (sym e) is))
        ]

    pub place_added : (more : List Place) → more ≡ places ++ place_of key ∷ [] → ArePlacesBelow keys (n + 1) more
    place_added more e = subst (ArePlacesBelow keys (n + 1)) (sym e) (record {
      each = λ k place g. elim (get_cases places (place_of key) k place g)
          [ inl h ↦ p.each k place h | inr h ↦ (n, subst (λ (x : Place). slice_get keys n ≡ Some (key_of x)) (sym h.1) is) ];
      all = λ k other l g. elim (cases_eq k n) [
        | inl i ↦ (let h : slice_get keys n ≡ Some other = subst (λ x. slice_get keys x ≡ Some other) i g in
            let same : key ≡ other = cc in
            subst (λ x. Holds (places ++ place_of key ∷ []) (place_of x)) same (holds_last places (place_of key)))
        | inr i ↦ holds_more places (place_of key ∷ []) (place_of other) (p.all k other (omega (arith, l, i)) g)
      ];
      ordered = λ j k a b l g h. elim (get_cases places (place_of key) k b h) [
        | inl y ↦ elim (get_cases places (place_of key) j a g) [
          | inl x ↦ p.ordered j k a b l x y
          | inr x ↦ absurd (let w = slice_get_within places k b y in omega (arith, w, l, x.0))
        ]
        | inr y ↦ elim (get_cases places (place_of key) j a g) [
          | inl x ↦ subst (λ (z : Place). key_cmp (key_of a) (key_of z) ≡ Less) (sym y.1) (above j a x)
          | inr x ↦ absurd (omega (arith, l, x.0, y.0))
        ]
      ];
      last = λ k place g. elim (get_cases places (place_of key) k place g) [
        | inl h ↦ (n, key, omega arith, is, inl (above k place h))
        | inr h ↦ (n, key, omega arith, is, inr (ap key_of h.1))
      ];
    })

  pub all_places : n ≡ length keys → AreTheirPlaces keys places
  all_places e = record {
    each = p.each;
    all = λ key h. p.all h.0 key (let w = slice_get_within keys h.0 key h.1 in omega (arith, w, e)) h.1;
    ordered = p.ordered;
  }

holds_along : {X : Type 0} (xs ys : List X) (x : X) → IsPermutation xs ys → Holds xs x → Holds ys x
holds_along xs ys x p h =
    let c : Contains ys x = Contains-permutation xs ys x p (h.0, slice_get_within xs h.0 x h.1, get_or_from_slice_get xs h.0 x x h.1) in
    (c.0, slice_get-get_or ys c.0 x c.1 ∙ ap Some c.2)

-- the order of places of one greater number is that of their keys
by_parts : (a b c d e f g h : ℕ) → a ≡ e → ordering_then (ordering_then (nat_cmp b f) (nat_cmp c g)) (nat_cmp d h) ≡ Less
    → ordering_then (nat_cmp a e) (ordering_then (nat_cmp b f) (ordering_then (nat_cmp c g) (nat_cmp d h))) ≡ Less
by_parts a b c d e f g h same l = rw (same, tied_itself nat_cmp_total e)
    (elim (then_less (ordering_then (nat_cmp b f) (nat_cmp c g)) (nat_cmp d h) l) [
      | inl x ↦ elim (then_less (nat_cmp b f) (nat_cmp c g) x) [ inl y ↦ rw y refl | inr y ↦ rw (y.0, y.1) refl ]
      | inr x ↦ (let y = then_equal (nat_cmp b f) (nat_cmp c g) x.0 in rw (y.0, y.1) x.1)
    ])

place_less : (p q : Place) → max p.i p.j ≡ max q.i q.j → key_cmp (key_of p) (key_of q) ≡ Less → place_cmp p q ≡ Less
place_less p q = by_parts (max p.i p.j) p.i p.j p.at (max q.i q.j) q.i q.j q.at

greater_is : (stored : List Entry) (left : List Symbol) (number : ℕ) (p : Place) → IsPlace stored left number p → max p.i p.j ≡ number
greater_is stored left number p (inl h) = let o = h.2 in let l = o.below in rw o.place_is (omega (arith, l))
greater_is stored left number p (inr (inl h)) = let o = h.2 in let l = o.below in rw o.place_is (omega (arith, l))
greater_is stored left number p (inr (inr h)) = rw h.1.place_is (omega arith)

-- the places of the keys that were collected, once they are sorted
pub collected : (stored : List Entry) (left : List Symbol) (number : ℕ) (keys sorted : List (ℕ × ℕ × ℕ)) (places : List Place)
    → Gains (λ key. IsPlace stored left number (place_of key)) [] keys → IsPermutation keys sorted → AreTheirPlaces sorted places
    → ArePlaces stored left number places
collected stored left number keys sorted places added moved of = record {
  each = is_place;
  all = λ p h. of.all (key_of p) (holds_along keys sorted (key_of p) moved (added.all (key_of p) h));
  ordered = λ j k p q l e f.
      place_less p q (greater_is stored left number p (is_place j p e) ∙ sym (greater_is stored left number q (is_place k q f)))
      (of.ordered j k p q l e f);
}
  where
    is_place : (k : ℕ) (p : Place) → slice_get places k ≡ Some p → IsPlace stored left number p
    is_place k p e =
        elim (added.only (key_of p) (holds_along sorted keys (key_of p) (IsPermutation-sym keys sorted moved) (of.each k p e)))
        [ inl h ↦ absurd (let g = h.1 in cc) | inr h ↦ h ]
