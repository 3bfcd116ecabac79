-- Lists without the spots of the last sides.
use Rattle.std.proofs.Common.{◌≡◌, inl, inr, ℕ, zero, suc, ◌+◌, ◌<◌, Bool, true, false, cond, List, [], ◌∷◌, length, refl, sym, ◌∙◌, subst, arith, Some, Vec}
use Rattle.std.specs.List.{slice_get, filter}
use Rattle.std.specs.declared.alloc.Global.{Global}
use Rattle.std.proofs.Math.Dec.{ltb}
use Rattle.std.proofs.Math.ListN.{set}
use Rattle.std.proofs.lemmas.Bool.{cases_eq, ltb-true, lt-ltb}
use Rattle.std.proofs.lemmas.Option.{slice_get_within}
use Rattle.swreq_trie.specs.declared.spots.Spot.{Spot}
use Rattle.swreq_trie.specs.Marks.{Holds, Retains, Forgets, ForgetsBelow}
use Rattle.swreq_rule.proofs.swreq_lemmas.Elements.{there_is, set_here, set_cases}

module _ {X : Type 0} (p : X → Bool) where
  holds_next : (y x : X) (xs : List X) → Holds xs x → Holds (y ∷ xs) x
  holds_next y x xs h = (suc h.0, h.1)

  filtered_only : (xs : List X) (x : X) → Holds (filter p xs) x → Holds xs x × (p x ≡ true)
  filtered_only [] x h = let e = h.1 in cc
  filtered_only (y ∷ xs) x h = go (p y) refl (filtered_only xs x) h
    where
      go : (b : Bool) → p y ≡ b → (Holds (filter p xs) x → Holds xs x × (p x ≡ true)) → Holds (cond b (y ∷ filter p xs) (filter p xs)) x
          → Holds (y ∷ xs) x × (p x ≡ true)
      go true e rest (zero, f) = let same : y ≡ x = cc in ((zero, f), subst (λ z. p z ≡ true) same e)
      go true e rest (suc k, f) = let r = rest (k, f) in (holds_next y x xs r.0, r.1)
      go false e rest g = let r = rest g in (holds_next y x xs r.0, r.1)

  filtered_all : (xs : List X) (x : X) (k : ℕ) → slice_get xs k ≡ Some x → p x ≡ true → Holds (filter p xs) x
  filtered_all [] x k e t = cc
  filtered_all (y ∷ xs) x zero e t = (let same : y ≡ x = cc in
      let yes : p y ≡ true = subst (λ z. p z ≡ true) (sym same) t in rw yes (zero, e))
  filtered_all (y ∷ xs) x (suc k) e t = go (p y) (filtered_all xs x k e t)
    where
      go : (b : Bool) → Holds (filter p xs) x → Holds (cond b (y ∷ filter p xs) (filter p xs)) x
      go true h = holds_next y x (filter p xs) h
      go false h = h

pub retained : (old new : List Spot) (side : ℕ) → new ≡ filter (λ (s : Spot). ltb s.side side) old → Retains old new side
retained old new side e = rw e (record {
  only = λ spot h. (let r = filtered_only (λ (s : Spot). ltb s.side side) old spot h in (r.0, ltb-true spot.side side r.1));
  all = λ spot h l. filtered_all (λ (s : Spot). ltb s.side side) old spot h.0 h.1 (lt-ltb spot.side side l);
})

pub none_forgotten : (lists : List (Vec Spot Global)) (side : ℕ) → ForgetsBelow lists lists side 0
none_forgotten lists side = record { as_many = refl; done = λ node list l e. absurd (omega (arith, l)); same = λ node l. refl }

length_set : {A : Type 0} (xs : List A) (k : ℕ) (x : A) → length (set xs k x) ≡ length xs
length_set [] k x = refl
length_set (y ∷ xs) zero x = refl
length_set (y ∷ xs) (suc k) x = (λ i. suc (length_set xs k x i))

set_elsewhere : {A : Type 0} (xs : List A) (k : ℕ) (x : A) (n : ℕ) → k < n → slice_get (set xs k x) n ≡ slice_get xs n
set_elsewhere [] k x n l = refl
set_elsewhere (y ∷ xs) k x zero l = absurd (omega (arith, l))
set_elsewhere (y ∷ xs) zero x (suc n) l = refl
set_elsewhere (y ∷ xs) (suc k) x (suc n) l = set_elsewhere xs k x n (omega (arith, l))

-- one list more
pub forgotten_more : (old lists new : List (Vec Spot Global)) (side n : ℕ) → ForgetsBelow old lists side n
    → (before after : Vec Spot Global)
    → slice_get lists n ≡ Some before → new ≡ set lists n after → Retains before.items after.items side → ForgetsBelow old new side (n + 1)
forgotten_more old lists new side n f before after b e r = rw e (record {
  as_many = length_set lists n after ∙ f.as_many;
  done = λ node list l g. elim (cases_eq node n) [
    | inl i ↦ (let here : slice_get (set lists n after) n ≡ Some list = subst (λ k. slice_get (set lists n after) k ≡ Some list) i g in
        let there = set_here lists n after (slice_get_within lists n before b) in
        let same : after ≡ list = cc in (
          before,
          subst (λ k. slice_get old k ≡ Some before) (sym i) (sym (f.same n (omega arith)) ∙ b),
          subst (λ (x : Vec Spot Global). Retains before.items x.items side) same r,
        ))
    | inr i ↦ elim (set_cases lists n after node list g) [
      | inl h ↦ f.done node list (omega (arith, l, i)) h
      | inr h ↦ absurd (i h.0)
    ]
  ];
  same = λ node l. set_elsewhere lists n after node (omega (arith, l)) ∙ f.same node (omega (arith, l));
})

pub all_forgotten : (old new : List (Vec Spot Global)) (side n : ℕ) → n ≡ length new → ForgetsBelow old new side n → Forgets old new side
all_forgotten old new side n e f = record {
  only = λ node spot h. (let l = slice_get_within new node h.0 h.1 in
      let r = f.done node h.0 (omega (arith, l, e)) h.1 in
      let s = r.2.only spot h.2 in
      ((r.0, r.1, s.0), s.1));
  all = λ node spot h l. (let m = slice_get_within old node h.0 h.1 in
      let many = f.as_many in
      let t = there_is new node (omega (arith, m, many)) in
      let r = f.done node t.0 (omega (arith, m, many, e)) t.1 in
      let a = r.1 in
      let b = h.1 in
      let same : h.0 ≡ r.0 = cc in
      (t.0, t.1, r.2.all spot (subst (λ (x : Vec Spot Global). Holds x.items spot) same h.2) l));
}
