-- Left sides, sorted, and the rules that are found by them.
use Rattle.std.proofs.Common.{◌≡◌, ◌⊎◌, inl, inr, ℕ, suc, ◌+◌, ◌<◌, ◌≤◌, false, List, [], ◌∷◌, ◌++◌, length, get_or, sym, ◌∙◌, ap, subst, arith, Some, true≢false}
use Rattle.std.specs.Borrow.{Bor}
use Rattle.std.specs.List.{slice_get, Contains}
use Rattle.std.specs.List.Sorted as sorts
use Rattle.std.specs.Ordering.{is_lt, nat_cmp, ordering_then}
use Rattle.std.proofs.lemmas.Bool.{cases_eq}
use Rattle.std.proofs.lemmas.List.Sorted.{Contains-permutation, IsPermutation-sym}
use Rattle.std.proofs.lemmas.Option.{slice_get_within, slice_get-get_or, get_or_from_slice_get}
use Rattle.swreq_rule.specs.swreq_word.declared.symbols.Symbol.{Symbol}
use Rattle.swreq_rule.specs.swreq_word.Order.{WordLess}
use Rattle.swreq_rule.specs.swreq_word.Relations.{IsIrreducible}
use Rattle.swreq_rule.proofs.swreq_word.Comparing.{trichotomy, less_trans}
use Rattle.swreq_rule.proofs.swreq_lemmas.Elements.{get_left, get_last, get_cases}
use Rattle.swreq_rule.specs.declared.rules.Rule.{Rule}
use Rattle.swreq_rule.specs.Steps.{Step}
use Rattle.swreq_rule.specs.Reduction.{Reduces}
use Rattle.swreq_rule.specs.swreq_word.Least.{EachFactor}
use Rattle.swreq_complete.specs.Search.{AreKeys, AreKeysBelow, IsKey, Key, IsReducedRule, Found, FoundBelow, key_cmp}

pub no_keys : (rules : List Rule) → AreKeysBelow rules 0 []
no_keys rules = record { each = λ n key e. cc; all = λ j rule l e f. absurd (omega (arith, l)) }

-- one rule more
pub key_skipped : (rules : List Rule) (k : ℕ) (keys : List Key) (rule : Rule) → slice_get rules k ≡ Some rule
    → (EachFactor rule.left (IsIrreducible (Step rules)) → ⊥) → AreKeysBelow rules k keys → AreKeysBelow rules (k + 1) keys
key_skipped rules k keys rule e not p = record {
  each = p.each;
  all = λ j other l f g. elim (cases_eq j k) [
    | inl i ↦ absurd (not (let h : slice_get rules k ≡ Some other = subst (λ x. slice_get rules x ≡ Some other) i f in
        let same : other ≡ rule = cc in subst
        (λ (x : Rule). EachFactor x.left (IsIrreducible (Step rules))) same g))
    | inr i ↦ p.all j other (omega (arith, l, i)) f g
  ];
}

pub key_added : (rules : List Rule) (k : ℕ) (keys new : List Key) (rule : Rule) (left : Bor (List Symbol)) → slice_get rules k ≡ Some rule
    → left.now ≡ rule.left → EachFactor rule.left (IsIrreducible (Step rules)) → AreKeysBelow rules k keys → new ≡ keys ++ (left, k) ∷ []
    → AreKeysBelow rules (k + 1) new
key_added rules k keys new rule left e s minimal p n = subst (AreKeysBelow rules (k + 1)) (sym n) (record {
  each = λ m key g. elim (get_cases keys (left, k) m key g) [
    | inl h ↦ p.each m key h
    | inr h ↦ subst (IsKey rules) (sym h.1) (rule, e, sym s, minimal)
  ];
  all = λ j other l f g. elim (cases_eq j k) [
    | inl i ↦ (let h : slice_get rules k ≡ Some other = subst (λ x. slice_get rules x ≡ Some other) i f in
        let same : rule ≡ other = cc in
        (length keys, (left, k), get_last keys (left, k), s ∙ ap (λ (x : Rule). x.left) same))
    | inr i ↦ (let r = p.all j other (omega (arith, l, i)) f g in (r.0, r.1, get_left keys ((left, k) ∷ []) r.0 r.1 r.2, r.3))
  ];
})

moved : {X : Type 0} (xs ys : List X) (k : ℕ) (x : X) → sorts.IsPermutation xs ys → slice_get xs k ≡ Some x
    → (n : ℕ) × (slice_get ys n ≡ Some x)
moved xs ys k x p e =
    let c : Contains ys x = Contains-permutation xs ys x p (k, slice_get_within xs k x e, get_or_from_slice_get xs k x x e) in
    (c.0, slice_get-get_or ys c.0 x c.1 ∙ ap Some c.2)

-- in another order
pub keys_moved : (rules : List Rule) (count : ℕ) (keys sorted : List Key) → sorts.IsPermutation keys sorted → AreKeysBelow rules count keys
    → AreKeysBelow rules count sorted
keys_moved rules count keys sorted move p = record {
  each = λ n key e. (let r = moved sorted keys n key (IsPermutation-sym keys sorted move) e in p.each r.0 key r.1);
  all = λ j rule l e f. (let r = p.all j rule l e f in let m = moved keys sorted r.0 r.1 move r.2 in (m.0, r.1, m.1, r.3));
}

-- a key's left side is not below that of the key before it
next_key : (keys : List Key) → sorts.IsSorted key_cmp keys → (n : ℕ) (a b : Key) → slice_get keys n ≡ Some a
    → slice_get keys (suc n) ≡ Some b → WordLess a.0.now b.0.now ⊎ (a.0.now ≡ b.0.now)
next_key keys sorted n a b e f =
    let l = slice_get_within keys (suc n) b f in
    let g : get_or keys n a ≡ a = get_or_from_slice_get keys n a a e in
    let h : get_or keys (n + 1) a ≡ b = get_or_from_slice_get keys (n + 1) b a (subst (λ m. slice_get keys m ≡ Some b) (omega arith) f) in
    let s : is_lt (key_cmp b a) ≡ false =
    subst (λ x. is_lt (key_cmp b x) ≡ false) g (subst (λ x. is_lt (key_cmp x (get_or keys n a)) ≡ false) h
    (sorted n a (omega arith) (omega (arith, l)))) in
    elim (trichotomy a.0.now b.0.now) [
      | inl x ↦ inl x
      | inr x ↦ elim x [
        | inl y ↦ inr y
        | inr y ↦ absurd (true≢false (sym (ap (λ o. is_lt (ordering_then o (nat_cmp b.1 a.1))) y) ∙ s))
      ]
    ]

pub none_found : (rules : List Rule) (keys : List Key) → FoundBelow rules keys 0 []
none_found rules keys = record {
  each = λ n r e. cc;
  all = λ n key l e. absurd (omega (arith, l));
  sorted = λ j k r s l e f. cc;
  last = λ k r e. cc;
}

module _ (rules : List Rule) (keys : List Key) (n : ℕ) (found : List Rule) (p : FoundBelow rules keys n found) where
  -- a left side that is the same as the one before it
  pub found_already : (m : ℕ) (a b : Key) → suc m ≡ n → slice_get keys m ≡ Some a → slice_get keys n ≡ Some b → a.0.now ≡ b.0.now
      → FoundBelow rules keys (n + 1) found
  found_already m a b next e f same = record {
    each = p.each;
    all = λ k key l g. elim (cases_eq k n) [
      | inl i ↦ (let h : slice_get keys n ≡ Some key = subst (λ x. slice_get keys x ≡ Some key) i g in
          let it : b ≡ key = cc in
          let r = p.all m a (omega (arith, next)) e in
          (r.0, r.1, r.2, r.3 ∙ same ∙ ap (λ (x : Key). x.0.now) it))
      | inr i ↦ p.all k key (omega (arith, l, i)) g
    ];
    sorted = p.sorted;
    last = λ k r g. (let q = p.last k r g in
        let i : q.0 ≡ m = (let z = q.2 in omega (arith, z, next)) in
        let h = subst (λ x. slice_get keys x ≡ Some q.1) i q.3 in
        let it : q.1 ≡ a = cc in
        (n, b, omega arith, f, subst (λ w. WordLess r.left w ⊎ (r.left ≡ w)) (ap (λ (x : Key). x.0.now) it ∙ same) q.4));
  }

  module _ (sorted : sorts.IsSorted key_cmp keys) (key : Key) (is : slice_get keys n ≡ Some key)
      (new : (m : ℕ) (a b : Key) → suc m ≡ n → slice_get keys m ≡ Some a → slice_get keys n ≡ Some b → a.0.now ≡ b.0.now → ⊥) where
    above : (k : ℕ) (r : Rule) → slice_get found k ≡ Some r → WordLess r.left key.0.now
    above k r g =
        let q = p.last k r g in
        elim (next_key keys sorted q.0 q.1 key q.3 (subst (λ x. slice_get keys x ≡ Some key) (sym q.2) is)) [
          | inl l ↦ elim q.4 [ inl m ↦ less_trans r.left q.1.0.now key.0.now m l | inr m ↦ subst (λ x. WordLess x key.0.now) (sym m) l ]
          | inr e ↦ absurd (new q.0 q.1 key q.2 q.3 is e)
        ]

    pub found_more : (rule : Rule) → rule.left ≡ key.0.now → IsReducedRule rules rule → (more : List Rule) → more ≡ found ++ rule ∷ []
        → FoundBelow rules keys (n + 1) more
    found_more rule left good more e = subst (FoundBelow rules keys (n + 1)) (sym e) (record {
      each = λ k r g. elim (get_cases found rule k r g) [ inl h ↦ p.each k r h | inr h ↦ subst (IsReducedRule rules) (sym h.1) good ];
      all = λ k other l g. elim (cases_eq k n) [
        | inl i ↦ (let h : slice_get keys n ≡ Some other = subst (λ x. slice_get keys x ≡ Some other) i g in
            let it : key ≡ other = cc in
            (length found, rule, get_last found rule, left ∙ ap (λ (x : Key). x.0.now) it))
        | inr i ↦ (let r = p.all k other (omega (arith, l, i)) g in (r.0, r.1, get_left found (rule ∷ []) r.0 r.1 r.2, r.3))
      ];
      sorted = λ j k a b l g h. elim (get_cases found rule k b h) [
        | inl y ↦ elim (get_cases found rule j a g) [
          | inl x ↦ p.sorted j k a b l x y
          | inr x ↦ absurd (let w = slice_get_within found k b y in omega (arith, w, l, x.0))
        ]
        | inr y ↦ elim (get_cases found rule j a g) [
          | inl x ↦ subst (λ (z : Rule). WordLess a.left z.left) (sym y.1) (subst (WordLess a.left) (sym left) (above j a x))
          | inr x ↦ absurd (omega (arith, l, x.0, y.0))
        ]
      ];
      last = λ k r g. elim (get_cases found rule k r g) [
        | inl h ↦ (n, key, omega arith, is, inl (above k r h))
        | inr h ↦ (n, key, omega arith, is, inr (ap (λ (x : Rule). x.left) h.1 ∙ left))
      ];
    })

  pub all_found : AreKeys rules keys → length keys ≤ n → Found rules found
  all_found of le = record {
    each = p.each;
    all = λ j rule e f. (let k = of.all j rule (slice_get_within rules j rule e) e f in
        let w = slice_get_within keys k.0 k.1 k.2 in let r = p.all k.0 k.1 (omega (arith, w, le)) k.2 in (r.0, r.1, r.2, r.3 ∙ k.3));
    sorted = p.sorted;
  }

-- the rule of a key, reduced
pub reduced_rule : (rules : List Rule) (keys : List Key) → AreKeys rules keys → (n : ℕ) (key : Key) → slice_get keys n ≡ Some key
    → (rule new : Rule) → slice_get rules key.1 ≡ Some rule → new.left ≡ rule.left → Reduces rules rule.right new.right
    → new.birth ≡ rule.birth
    → (new.left ≡ key.0.now) × IsReducedRule rules new
reduced_rule rules keys of n key e rule new f left right birth =
    let r = of.each n key e in
    let g = r.1 in
    let same : r.0 ≡ rule = cc in
    let minimal = subst (λ (x : Rule). EachFactor x.left (IsIrreducible (Step rules))) same r.3 in (
      left ∙ sym (ap (λ (x : Rule). x.left) same) ∙ r.2,
      (key.1, (rule, f, sym left, sym birth, subst (λ x. EachFactor x (IsIrreducible (Step rules))) (sym left) minimal, right)),
    )

pub key_within : (rules : List Rule) (keys : List Key) → AreKeys rules keys → (n : ℕ) (key : Key) → slice_get keys n ≡ Some key
    → key.1 < length rules
key_within rules keys of n key e = let r = of.each n key e in slice_get_within rules key.1 r.0 r.1
