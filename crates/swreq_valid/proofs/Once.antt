-- Each protocol stands once in written order.
use Rattle.std.proofs.Common.{◌≡◌, ◌∙◌, inl, inr, refl, sym, ap, subst, ℕ, zero, suc, ◌<◌, arith, Bool, true, List, [], ◌∷◌, length, map, slice_get, Some, eq-eqb, ne_eqb}
use Rattle.std.specs.Bool.{nat_eq, if◌then◌else◌}
use Rattle.std.specs.List.{list_any}
use Rattle.std.specs.Option.{option_map}
use Rattle.std.proofs.lemmas.Bool.{cases_eq}
use Rattle.std.proofs.lemmas.Bool.Decides.{Decides-eqb}
use Rattle.std.proofs.lemmas.List.{length-map}
use Rattle.std.proofs.lemmas.List.Folds.{list_any_at}
use Rattle.std.proofs.lemmas.Map.Steps.{le-length_from_below}
use Rattle.std.proofs.lemmas.Option.{get_or_from_slice_get, slice_get-map, slice_get_within, slice_get_read}
use Rattle.swreq_rounds.specs.swreq_param.declared.ids.ProtoId.{ProtoId}
use Rattle.swreq_world.specs.swreq_lexicon.Views.{LexiconView}
use Rattle.swreq_world.specs.Closed.{AreIds}
use Rattle.swreq_valid.specs.Keeping.{flags_of}

-- ---- a list without one place

abbrev without : {A : Type 0} → ℕ → List A → List A
without j [] = []
without zero (x ∷ xs) = xs
without (suc j) (x ∷ xs) = x ∷ without j xs

length-without : {A : Type 0} (xs : List A) (j : ℕ) → j < length xs → suc (length (without j xs)) ≡ length xs
length-without [] j l = absurd (omega (arith, l))
length-without (x ∷ xs) zero l = refl
length-without (x ∷ xs) (suc j) l = ap suc (length-without xs j (omega (arith, l)))

kept_place : {A : Type 0} (xs : List A) (j k : ℕ) (q : A) → slice_get xs k ≡ Some q → (k ≡ j → ⊥)
    → (i : ℕ) × (slice_get (without j xs) i ≡ Some q)
kept_place [] j k q e n = absurd cc
kept_place (x ∷ xs) zero zero q e n = absurd (n refl)
kept_place (x ∷ xs) zero (suc k) q e n = (k, e)
kept_place (x ∷ xs) (suc j) zero q e n = (0, e)
kept_place (x ∷ xs) (suc j) (suc k) q e n = let (i, h) = kept_place xs j k q e (λ s. n (ap suc s)) in (suc i, h)

-- ---- protocols in written order

module _ (x : LexiconView) (ids : AreIds x) where
  abbrev ranks : List ℕ
  ranks = map (λ (p : ProtoId). p.rank) x.written_order

  rank_at : (k : ℕ) (p : ProtoId) → slice_get x.written_order k ≡ Some p → slice_get ranks k ≡ Some p.rank
  rank_at k p e = slice_get-map (λ (z : ProtoId). z.rank) x.written_order k ∙ ap (option_map (λ (z : ProtoId). z.rank)) e

  pub once : (i j : ℕ) (p q : ProtoId) → i < j → slice_get x.written_order i ≡ Some p
      → slice_get x.written_order j ≡ Some q → p.rank ≡ q.rank → ⊥
  once i j p q l e h same =
      let long : length ranks ≡ length x.protocols = length-map x.written_order (λ (z : ProtoId). z.rank) ∙ ids.each_once in
      let within : j < length ranks = slice_get_within ranks j q.rank (rank_at j q h) in
      let less = length-without ranks j within in
      let enough = le-length_from_below (without j ranks) (length x.protocols) each in
      absurd (omega (arith, long, less, enough))
    where
      there : (r k : ℕ) → slice_get (without j ranks) k ≡ Some r → list_any (nat_eq r) (without j ranks) ≡ true
      there r k g =
          list_any_at (nat_eq r) (without j ranks) k r (slice_get_within (without j ranks) k r g)
          (subst (λ z. nat_eq r z ≡ true) (sym (get_or_from_slice_get (without j ranks) k r r g)) ((Decides-eqb r r).1 refl))

      each : (r : ℕ) → r < length x.protocols → list_any (nat_eq r) (without j ranks) ≡ true
      each r m =
          let c = (ids.written_order (record { rank = r })).1 m in
          let at : slice_get x.written_order c.0 ≡ Some (record { rank = r }) =
          slice_get_read x.written_order (length x.written_order) c.0 (record { rank = r }) refl c.1 (sym c.2) in
          let rank : slice_get ranks c.0 ≡ Some r = rank_at c.0 (record { rank = r }) at in
          elim (cases_eq c.0 j) [
            | inr n ↦ (let (k, g) = kept_place ranks j c.0 r rank n in there r k g)
            | inl s ↦ (let jth : slice_get ranks j ≡ Some r = subst (λ z. slice_get ranks z ≡ Some r) s rank in
                let value : q.rank ≡ r = (let a = rank_at j q h in cc) in
                let ith : slice_get ranks i ≡ Some r = rank_at i p e ∙ ap Some (same ∙ value) in
                let (k, g) = kept_place ranks j i r ith (λ z. omega (arith, z, l)) in
                there r k g)
          ]

-- ---- the flags of a protocol

-- where no protocol before a place is the one at it, its flags are those at the place
pub flags_at : (ps : List ProtoId) (keep : List (List Bool)) (k : ℕ) (p : ProtoId) (flags : List Bool)
    → ((i : ℕ) (q : ProtoId) → i < k → slice_get ps i ≡ Some q → q.rank ≡ p.rank → ⊥)
    → slice_get ps k ≡ Some p → slice_get keep k ≡ Some flags → flags_of ps keep p ≡ flags
flags_at [] keep k p flags other e h = absurd cc
flags_at (q ∷ ps) [] k p flags other e h = absurd cc
flags_at (q ∷ ps) (f ∷ keep) zero p flags other e h =
    let same : q ≡ p = cc in
    let mine : f ≡ flags = cc in
    ap (λ b. if b then f else flags_of ps keep p) (eq-eqb q.rank p.rank (ap (λ (z : ProtoId). z.rank) same)) ∙ mine
flags_at (q ∷ ps) (f ∷ keep) (suc k) p flags other e h =
    ap (λ b. if b then f else flags_of ps keep p) (ne_eqb q.rank p.rank (other 0 q (omega arith) refl))
    ∙ flags_at ps keep k p flags (λ i r l g. other (suc i) r (omega (arith, l)) g) e h
