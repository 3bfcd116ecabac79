-- What the orders of associated types and of member symbols say.
use Rattle.std.proofs.Common.{◌≡◌, ℕ, ◌<◌, ◌↔◌, Bool, true, false, cond, not, ◌&&◌, nat_eq, List, slice_get, Some, Contains, refl, sym, ap, subst, ◌∙◌, eqb-true}
use Rattle.std.specs.declared.cmp.Ordering.{Ordering}
use Rattle.std.specs.declared.cmp.Ordering.TheVariants.{Less, Equal, Greater}
use Rattle.std.specs.Ordering.{nat_cmp, ordering_reverse, ordering_then}
use Rattle.std.specs.Cmp.{IsTotalOrder, nat_cmp_is}
use Rattle.std.specs.List.Sorted.{IsStrictlySortedBy}
use Rattle.std.proofs.lemmas.Bool.{eq-eqb, and_from, and_parts, false_from_ne_true}
use Rattle.std.proofs.lemmas.Cmp.{then_total, on_total, back_total, nat_cmp_total, tied_itself}
use Rattle.swreq_rank.proofs.Tests.{same_bool, some_passes, passes}
use Rattle.swreq_derive.specs.swreq_param.declared.ids.NameId.{NameId}
use Rattle.swreq_derive.specs.swreq_param.declared.ids.ProtoId.{ProtoId}
use Rattle.swreq_lexicon.specs.declared.pair.ProtocolName.{ProtocolName}
use Rattle.swreq_lexicon.specs.Associated.{depth, inherits_name, is_root, assoc_cmp, InheritsName, order_cmp, symbol_cmp}
use Rattle.swreq_lexicon.specs.Lexicons.{pair}
use Rattle.swreq_lexicon.specs.Symbols.{AreOnce}
use Rattle.swreq_rank.specs.Ranks.{IsRanking}
use Rattle.swreq_rank.proofs.Rising.{rising_from_sorted, one_place}
use Rattle.swreq_lexicon.proofs.RankLaws.{stands_first}

-- of two items of a sorted list, the lesser one stands first
pub lesser_first : {K : Type 0} (cmp : K → K → Ordering) → IsTotalOrder cmp → (xs : List K) → IsStrictlySortedBy cmp xs
    → (i j : ℕ) (x y : K) → slice_get xs i ≡ Some x → slice_get xs j ≡ Some y → cmp x y ≡ Less → i < j
lesser_first cmp total xs sorted i j x y f g h =
    stands_first cmp xs sorted i j x y f g
    (λ s. let clash : Equal ≡ Less = sym (tied_itself total x) ∙ ap (cmp x) s ∙ h in absurd cc)
    (λ l. let clash : Less ≡ Greater = sym h ∙ total.antisymm x y ∙ ap ordering_reverse l in absurd cc)

-- if two numbers are equal, what is compared next decides the order
tied : (m n : ℕ) (o : Ordering) → m ≡ n → ordering_then (nat_cmp m n) o ≡ o
tied m n o e = ap (λ c. ordering_then c o) (sym (nat_cmp_is m n Equal e))

-- ---- associated types

module _ (inherits : ProtoId → ProtoId → Bool) (associated : List ProtocolName) where
  -- the test for roots tells whether P inherits the name
  module _ (p : ProtoId) (a : NameId) where
    abbrev test : ProtocolName → Bool
    test d = nat_eq a.rank d.name.rank && inherits p d.proto

    name_from : inherits_name inherits associated p a ≡ true → InheritsName inherits associated p a
    name_from e =
        let s = some_passes test associated e in
        let b = and_parts (nat_eq a.rank s.0.name.rank) (inherits p s.0.proto) s.2 in
        let n = eqb-true a.rank s.0.name.rank b.0 in
        (s.0.proto, b.1, subst (λ d. Contains associated d) (λ i. record { proto = s.0.proto; name = record { rank = sym n i } }) s.1)

    name_to : InheritsName inherits associated p a → inherits_name inherits associated p a ≡ true
    name_to h = passes test associated (pair h.0 a) h.2 (and_from (nat_eq a.rank a.rank) (inherits p h.0) (eq-eqb a.rank a.rank refl) h.1)

    name_not : (InheritsName inherits associated p a → ⊥) → inherits_name inherits associated p a ≡ false
    name_not n = false_from_ne_true (inherits_name inherits associated p a) (λ e. n (name_from e))

  -- 0 for a root, and 1 for any other associated type
  abbrev kind : ProtocolName → ℕ
  kind d = cond (is_root inherits associated d) 0 1

  module _ (p q : ProtoId) (a : NameId) where
    abbrev of_kinds : Ordering
    of_kinds = ordering_then (nat_cmp (kind (pair p a)) (kind (pair q a))) (nat_cmp p.rank q.rank)

    pub root_first : (InheritsName inherits associated p a → ⊥) → InheritsName inherits associated q a
        → assoc_cmp inherits associated (pair p a) (pair q a) ≡ Less
    root_first n h = tied a.rank a.rank of_kinds refl
        ∙ (λ i. ordering_then (nat_cmp (cond (not (name_not p a n i)) 0 1) (cond (not (name_to q a h i)) 0 1)) (nat_cmp p.rank q.rank))

    pub lesser_protocol : InheritsName inherits associated p a ↔ InheritsName inherits associated q a → p.rank < q.rank
        → assoc_cmp inherits associated (pair p a) (pair q a) ≡ Less
    lesser_protocol same h =
        let e = same_bool (inherits_name inherits associated p a) (inherits_name inherits associated q a)
        (λ y. name_to q a (same.0 (name_from p a y))) (λ y. name_to p a (same.1 (name_from q a y))) in
        tied a.rank a.rank of_kinds refl ∙ tied (kind (pair p a)) (kind (pair q a)) (nat_cmp p.rank q.rank) (ap (λ b. cond (not b) 0 1) e)
        ∙ sym (nat_cmp_is p.rank q.rank Less h)

-- ---- member symbols

module _ (inherits : ProtoId → ProtoId → Bool) (n : ℕ) where
  pub order_total : IsTotalOrder (order_cmp inherits n)
  order_total = then_total (back_total (on_total (depth inherits n) nat_cmp_total)) (on_total (λ (p : ProtoId). p.rank) nat_cmp_total)

  pub symbol_total : IsTotalOrder (symbol_cmp inherits n)
  symbol_total =
      then_total (on_total (λ (d : ProtocolName). d.name.rank) nat_cmp_total) (on_total (λ (d : ProtocolName). d.proto) order_total)

  pub ordered_once : (order : List ProtoId) → IsRanking (order_cmp inherits n) (λ p. p.rank < n) order → AreOnce order
  ordered_once order is = one_place (order_cmp inherits n) order_total order (rising_from_sorted (order_cmp inherits n) order is.sorted)

  module _ (p q : ProtoId) (a : NameId) where
    of_protocols : order_cmp inherits n p q ≡ Less → symbol_cmp inherits n (pair p a) (pair q a) ≡ Less
    of_protocols e = tied a.rank a.rank (order_cmp inherits n p q) refl ∙ e

    pub deeper_first : depth inherits n q < depth inherits n p → symbol_cmp inherits n (pair p a) (pair q a) ≡ Less
    deeper_first h =
        of_protocols (ap (λ o. ordering_then o (nat_cmp p.rank q.rank)) (sym (nat_cmp_is (depth inherits n q) (depth inherits n p) Less h)))

    pub symbol_lesser_protocol : depth inherits n p ≡ depth inherits n q → p.rank < q.rank
        → symbol_cmp inherits n (pair p a) (pair q a) ≡ Less
    symbol_lesser_protocol e h = of_protocols (tied (depth inherits n q) (depth inherits n p) (nat_cmp p.rank q.rank) (sym e)
        ∙ sym (nat_cmp_is p.rank q.rank Less h))
