-- The pairs of one greater number, place by place.
use Rattle.std.proofs.Common.{◌≡◌, ℕ, ◌+◌, ◌<◌, ◌≤◌, ◌⊎◌, inl, inr, refl, sym, ◌∙◌, ap, subst, arith, List, [], ◌∷◌, ◌++◌, append_assoc, length, length-append, Some, max, Option}
use Rattle.std.specs.List.{slice_get}
use Rattle.std.specs.Ordering.{nat_cmp, ordering_then}
use Rattle.std.proofs.lemmas.Bool.{cases_lt, cases_eq}
use Rattle.std.proofs.lemmas.Option.{slice_get_within}
use Rattle.swreq_rule.specs.swreq_word.declared.symbols.Symbol.{Symbol}
use Rattle.swreq_rule.specs.swreq_word.OrderLaws.{then_less, nat_less, nat_equal}
use Rattle.swreq_rule.specs.declared.rules.Rule.{Rule}
use Rattle.swreq_rule.specs.declared.rules.Place.{Place}
use Rattle.swreq_rule.specs.declared.rules.Birth.{Birth}
use Rattle.swreq_rule.specs.declared.rules.Birth.TheVariants.{Given, Pair}
use Rattle.swreq_pair.specs.Pairs.{HasPair, IsPair}
use Rattle.swreq_watch.specs.declared.events.Event.{Event}
use Rattle.swreq_complete.specs.declared.limit.Limits.{Limits}
use Rattle.swreq_complete.specs.declared.limit.Stop.{Stop}
use Rattle.swreq_complete.specs.declared.limit.Stop.TheVariants.{Limit, Memory}
use Rattle.swreq_complete.specs.Moments.{Before, HasSides, greater_number}
use Rattle.swreq_complete.specs.Progress.{Progress, UpTo, Listed, AreAllPlaces, SettlesPlace}
use Rattle.swreq_complete.specs.Limits.{KeepsAll}
use Rattle.swreq_complete.specs.Settling.{DoneWithin, StoppedAt, HasCome, HasStopped}
use Rattle.swreq_complete.proofs.Moments.{greater_before, not_itself, not_both}
use Rattle.swreq_complete.proofs.Progress.{settle_one}
use Rattle.swreq_rule.proofs.swreq_lemmas.Elements.{get_left, get_front}
use Rattle.swreq_complete.proofs.PairOrder.{widen}
use Rattle.swreq_complete.proofs.Sides.{pair_among}
use Rattle.swreq_complete.proofs.Telling.{Adds, place_adds, goes_on, stops, grown_none}
use Rattle.swreq_complete.proofs.Closed.{reached}

-- a pair of the first rules is one of them alone
pair_back : (first more : List Rule) (p : Place) (l r : List Symbol) → max p.i p.j ≤ length first
    → IsPair (first ++ more) p l r → IsPair first p l r
pair_back first more p l r le =
    pair_among (first ++ more) first p l r (λ k rule b. get_front first more k rule (omega (arith, b, le)))

-- and stays one among more
pair_on : (first more : List Rule) (p : Place) (l r : List Symbol) → IsPair first p l r → IsPair (first ++ more) p l r
pair_on first more p l r = pair_among first (first ++ more) p l r (λ k rule b. get_left first more k rule)

no_greater_than : (i j at u v w : ℕ) → Before (Pair i j at) (Pair u v w) → max i j ≤ max u v
no_greater_than i j at u v w b =
    elim (then_less (nat_cmp (max i j) (max u v)) (ordering_then (nat_cmp i u) (ordering_then (nat_cmp j v) (nat_cmp at w))) b) [
      | inl x ↦ (let y = nat_less (max i j) (max u v) x in omega (arith, y))
      | inr x ↦ (let y = nat_equal (max i j) (max u v) x.0 in omega (arith, y))
    ]

up_to_closed : (greater : ℕ) (m k : Birth) → Before m k → UpTo greater k → UpTo greater m
up_to_closed greater (Given a) k b h = tt
up_to_closed greater (Pair i j at) (Given c) b h = cc b
up_to_closed greater (Pair i j at) (Pair u v w) b h = let z = no_greater_than i j at u v w b in omega (arith, z, h)

-- memory ran out before a pair with this greater number is settled
pub stops_here : (limits : Limits) (base : ℕ) (given : List (List Symbol × List Symbol)) (rules : List Rule) (greater : ℕ)
    (told : Option (List Event))
    → Progress base given rules (UpTo greater) → KeepsAll limits base rules → (s : Stop) → s ≡ Memory
    → HasStopped limits base given rules rules told told s
stops_here limits base given rules greater told p kept (Limit which) e = cc
stops_here limits base given rules greater told p kept Memory e = (
  rules,
  record {
    reached = reached base given rules (UpTo greater) p (λ m k l r h. up_to_closed greater m k);
    kept = λ k rule lo l h. kept k rule lo h;
  },
  grown_none rules told,
)

module _ (base : ℕ) (given : List (List Symbol × List Symbol)) (first : List Rule) (greater : ℕ) (places : List Place)
    (of : AreAllPlaces first greater places) (lo : base < greater) (le : greater ≤ length first) where
  -- all places of such pairs of these rules are listed
  abbrev AllHere : List Rule → Type 0
  AllHere t = (p : Place) (l r : List Symbol) → IsPair t p l r → max p.i p.j ≡ greater → (n : ℕ) × (slice_get places n ≡ Some p)

  here_of : (t more : List Rule) → t ≡ first ++ more → AllHere t
  here_of t more e p l r q g = of.all p l r (pair_back first more p l r (omega (arith, g, le)) (subst (λ x. IsPair x p l r) e q)) g

  listed_bound : (count n : ℕ) (m : Birth) → greater ≤ n → Listed greater places count m → greater_number m ≤ n
  listed_bound count n (Given k) l h = omega arith
  listed_bound count n (Pair i j at) l (inl h) = omega (arith, l, h)
  listed_bound count n (Pair i j at) l (inr h) = let e = (of.each h.0 (record { i = i; j = j; at = at }) h.2).0 in omega (arith, l, e)

  longer : (t more : List Rule) → t ≡ first ++ more → greater ≤ length t
  longer t more e = let n = simp length-append at (ap length e) in omega (arith, n, le)

  pub listed_begun : (t more : List Rule) → t ≡ first ++ more → Progress base given t (UpTo greater)
      → Progress base given t (Listed greater places 0)
  listed_begun t more e p =
      widen base given t (UpTo greater) (Listed greater places 0) p wider only (λ m. listed_bound 0 (length t) m (longer t more e))
    where
      wider : (m : Birth) → UpTo greater m → Listed greater places 0 m
      wider (Given n) h = tt
      wider (Pair i j at) h = inl h

      only : (m : Birth) (l r : List Symbol) → HasSides base given t m l r → Listed greater places 0 m → UpTo greater m
      only (Given n) l r s h = tt
      only (Pair i j at) l r s (inl h) = h
      only (Pair i j at) l r s (inr h) = absurd (let z = h.1 in omega (arith, z))

  pub listed_done : (t more : List Rule) → t ≡ first ++ more → (count : ℕ) → length places ≤ count
      → Progress base given t (Listed greater places count)
      → Progress base given t (UpTo (greater + 1))
  listed_done t more e count all p =
      widen base given t (Listed greater places count) (UpTo (greater + 1)) p wider (only (here_of t more e)) (bound (longer t more e))
    where
      wider : (m : Birth) → Listed greater places count m → UpTo (greater + 1) m
      wider (Given n) h = tt
      wider (Pair i j at) (inl h) = omega (arith, h)
      wider (Pair i j at) (inr h) = let g = (of.each h.0 (record { i = i; j = j; at = at }) h.2).0 in omega (arith, g)

      only : AllHere t → (m : Birth) (l r : List Symbol) → HasSides base given t m l r → UpTo (greater + 1) m
          → Listed greater places count m
      only here (Given n) l r s h = tt
      only here (Pair i j at) l r s h = elim (cases_lt (max i j) greater) [
        | inl x ↦ inl x
        | inr x ↦ (let q = here (record { i = i; j = j; at = at }) l r s.1 (omega (arith, h, x)) in
            let w = slice_get_within places q.0 (record { i = i; j = j; at = at }) q.1 in
            inr (q.0, omega (arith, w, all), q.1))
      ]

      bound : greater ≤ length t → (m : Birth) → UpTo (greater + 1) m → greater_number m ≤ length t
      bound g (Given n) h = omega arith
      bound g (Pair i j at) h = omega (arith, g, h)

  -- what comes before what is listed is listed
  listed_closed : (count : ℕ) (t : List Rule) → AllHere t → (m k : Birth) (l r : List Symbol) → HasSides base given t m l r → Before m k
      → Listed greater places count k → Listed greater places count m
  listed_closed count t here (Given a) k l r s b h = tt
  listed_closed count t here (Pair i j at) (Given c) l r s b h = cc b
  listed_closed count t here (Pair i j at) (Pair u v w) l r s b h =
      elim (cases_lt (max i j) greater) [
        | inl x ↦ inl x
        | inr x ↦ elim h [
          | inl y ↦ absurd (let z = no_greater_than i j at u v w b in omega (arith, x, y, z))
          | inr y ↦ (let g = (of.each y.0 (record { i = u; j = v; at = w }) y.2).0 in
              let z = no_greater_than i j at u v w b in
              let q = here (record { i = i; j = j; at = at }) l r s.1 (omega (arith, x, g, z)) in
              elim (cases_lt q.0 y.0) [
                | inl a ↦ inr (q.0, (let c = y.1 in omega (arith, a, c)), q.1)
                | inr a ↦ elim (cases_lt y.0 q.0) [
                  | inl d ↦ absurd (not_both (Pair i j at) (Pair u v w) b
                      (of.ordered y.0 q.0 (record { i = u; j = v; at = w }) (record { i = i; j = j; at = at }) d y.2 q.1))
                  | inr d ↦ absurd (let f = q.1 in
                      let e : slice_get places q.0 ≡ Some (record { i = u; j = v; at = w }) =
                      subst (λ n. slice_get places n ≡ Some (record { i = u; j = v; at = w })) (omega (arith, a, d)) y.2 in
                      let same : record { i = i; j = j; at = at } ≡ record { i = u; j = v; at = w } = cc in
                      not_itself (Pair u v w) (subst (λ (z : Place). Before (Pair z.i z.j z.at) (Pair u v w)) same b))
                ]
              ])
        ]
      ]

  module _ (n : ℕ) (p : Place) (is : slice_get places n ≡ Some p) where
    greater_is : max p.i p.j ≡ greater
    greater_is = (of.each n p is).0

    listed_before : (m : Birth) → Listed greater places n m → Before m (Pair p.i p.j p.at)
    listed_before (Given k) h = refl
    listed_before (Pair i j at) (inl h) = greater_before i j at p.i p.j p.at (let g = greater_is in omega (arith, h, g))
    listed_before (Pair i j at) (inr h) = of.ordered h.0 n (record { i = i; j = j; at = at }) p h.1 h.2 is

    listed_more : (m : Birth) → Listed greater places n m → Listed greater places (n + 1) m
    listed_more (Given k) h = tt
    listed_more (Pair i j at) (inl h) = inl h
    listed_more (Pair i j at) (inr h) = inr (h.0, (let l = h.1 in omega (arith, l)), h.2)

    listed_only : (m : Birth) → Listed greater places (n + 1) m → Listed greater places n m ⊎ (m ≡ Pair p.i p.j p.at)
    listed_only (Given k) h = inl tt
    listed_only (Pair i j at) (inl h) = inl (inl h)
    listed_only (Pair i j at) (inr h) = elim (cases_eq h.0 n) [
      | inl e ↦ inr (let f = subst (λ x. slice_get places x ≡ Some (record { i = i; j = j; at = at })) e h.2 in
          let same : record { i = i; j = j; at = at } ≡ p = cc in ap (λ (x : Place). Pair x.i x.j x.at) same)
      | inr e ↦ inl (inr (h.0, (let l = h.1 in omega (arith, l, e)), h.2))
    ]

    module _ (t more : List Rule) (grown : t ≡ first ++ more) where
      -- the pair that is settled there
      pub pair_there : HasPair t p
      pair_there = let q = (of.each n p is).1 in (q.0, q.1, subst (λ x. IsPair x p q.0 q.1) (sym grown) (pair_on first more p q.0 q.1 q.2))

      module _ (progress : Progress base given t (Listed greater places n)) where
        takes_on : (new : List Rule) → SettlesPlace t new p → Progress base given new (Listed greater places (n + 1))
        takes_on new o =
            let g = greater_is in
            settle_one base given t new (Listed greater places n) (Listed greater places (n + 1)) (Pair p.i p.j p.at) o.0 o.1 progress
            (omega (arith, g, lo), o.2) o.3 listed_before (let z = longer t more grown in omega (arith, g, z)) listed_more
            (inr (n, omega arith, is)) (λ m l r h v. listed_only m v) (λ m. listed_bound (n + 1) (length t) m (longer t more grown))

        here_after : (s : List Rule) → Adds t s → AllHere s
        here_after s (inl e) = here_of s more (e ∙ grown)
        here_after s (inr e) = here_of s (more ++ e.0 ∷ []) (e.1 ∙ ap (λ x. x ++ e.0 ∷ []) grown ∙ append_assoc first more (e.0 ∷ []))

        module _ (limits : Limits) (new : List Rule) (told told' : Option (List Event)) (kept : KeepsAll limits base t) where
          pub place_goes : DoneWithin limits (λ s. SettlesPlace t s p) t new told told'
              → HasCome limits base given (Listed greater places (n + 1)) t new told told'
          place_goes =
              goes_on limits base given (Listed greater places n) (Listed greater places (n + 1)) (λ s. SettlesPlace t s p) t new told told'
              progress kept (λ m k l r h. listed_closed n t (here_of t more grown) m k l r h)
              (λ s d m k l r h. listed_closed (n + 1) s (here_after s (place_adds t s p d)) m k l r h)
              (λ s d. place_adds t s p d) takes_on

          pub place_stops : (s : Stop) → StoppedAt limits (λ s. SettlesPlace t s p) t new told told' s
              → HasStopped limits base given t new told told' s
          place_stops =
              stops limits base given (Listed greater places n) (Listed greater places (n + 1)) (λ s. SettlesPlace t s p) t new told told'
              progress kept (λ m k l r h. listed_closed n t (here_of t more grown) m k l r h)
              (λ s d m k l r h. listed_closed (n + 1) s (here_after s (place_adds t s p d)) m k l r h)
              (λ s d. place_adds t s p d) takes_on
