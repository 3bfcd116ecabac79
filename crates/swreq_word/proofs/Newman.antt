-- Newman's lemma: where every step goes down in a well-founded order, and any two that are each one step from a third meet,
-- each leads to exactly one irreducible, which is the least of its class.
use Rattle.std.proofs.Common.{◌≡◌, ◌⊎◌, inl, inr, refl, sym, subst}
use Rattle.swreq_word.specs.Relations.{Chain, Linked, Meet, IsLocallyConfluent, IsIrreducible}
use Rattle.swreq_lemmas.specs.WellFounded.{IsWellFounded}
use Rattle.swreq_word.specs.Relations.Chain.{done, more}
use Rattle.swreq_word.specs.Relations.Linked.{here, forth, back}
use Rattle.swreq_word.proofs.Chains.{joined, stays}
use Rattle.swreq_lemmas.proofs.Induction.{by_below}

module _ {A : Type 0} {R Below : A → A → Type 0} (down : (a b : A) → R a b → Below b a) (founded : IsWellFounded Below) where
  module _ (local : IsLocallyConfluent R) where
    from_first : (a : A) → ((x : A) → Below x a → (b c : A) → Chain R x b → Chain R x c → Meet R b c) → (b c : A) → Chain R a b
        → Chain R a c → Meet R b c
    from_first a ih b c done k = (c, k, done)
    from_first a ih b c k done = (b, done, k)
    from_first a ih b c (more {b = x} s k) (more {b = y} t l) =
        let m = local a x y s t in
        let left = ih x (down a x s) b m.0 k m.1 in
        let right = ih y (down a y t) left.0 c (joined m.2 left.2) l in
        (right.0, joined left.1 right.1, right.2)

    -- any two that are reached from one meet
    pub confluent : (a b c : A) → Chain R a b → Chain R a c → Meet R b c
    confluent a = by_below (λ x. (b c : A) → Chain R x b → Chain R x c → Meet R b c) from_first (founded a)

    -- any two of one class meet
    pub class_meets : {a b : A} → Linked R a b → Meet R a b
    class_meets {a} here = (a, done, done)
    class_meets (forth r k) = let m = class_meets k in (m.0, more r m.1, m.2)
    class_meets (back {a = a} {b = b} r k) =
        let m = class_meets k in
        let n = confluent b a m.0 (more r done) m.1 in
        (n.0, n.1, joined m.2 n.2)

    -- an irreducible of a class is reached from each of the class
    pub reached_by_class : {a b n : A} → Chain R a n → IsIrreducible R n → Linked R a b → Chain R b n
    reached_by_class {a} {b} {n} h irr k =
        let m = class_meets k in
        let e = confluent a n m.0 h m.1 in
        let same : n ≡ e.0 = stays irr e.1 in
        joined m.2 (subst (λ x. Chain R m.0 x) (sym same) e.2)

  -- each reaches an irreducible
  pub normal : ((a : A) → ((b : A) × R a b) ⊎ IsIrreducible R a) → (a : A) → (n : A) × Chain R a n × IsIrreducible R n
  normal decide a = by_below (λ a. (n : A) × Chain R a n × IsIrreducible R n)
      (λ a ih. elim (decide a) [ inl s ↦ (let m = ih s.0 (down a s.0 s.1) in (m.0, more s.1 m.1, m.2)) | inr n ↦ (a, done, n) ])
      (founded a)

  -- a chain ends where it began or below
  pub chain_down : ((a b c : A) → Below a b → Below b c → Below a c) → {a b : A} → Chain R a b → (b ≡ a) ⊎ Below b a
  chain_down trans done = inl refl
  chain_down trans (more {a = a} {b = x} {c = c} s h) =
      inr (elim (chain_down trans h) [ inl e ↦ subst (λ y. Below y a) (sym e) (down a x s) | inr l ↦ trans c x a l (down a x s) ])
