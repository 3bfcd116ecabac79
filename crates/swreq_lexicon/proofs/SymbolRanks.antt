-- The rank of a member symbol.
use Rattle.std.proofs.Common.{◌≡◌, ℕ, ◌+◌, ◌-◌, ◌^◌, ◌<◌, ◌≤◌, Bool, true, false, List, length, get_or, slice_get, take, Some, Contains, sym, ap, ◌∙◌, arith, true≢false}
use Rattle.std.proofs.lemmas.List.{get_or_default, length-take-le}
use Rattle.std.proofs.lemmas.Option.{slice_get_within, get_or_from_slice_get}
use Rattle.swreq_derive.specs.swreq_param.declared.ids.NameId.{NameId}
use Rattle.swreq_derive.specs.swreq_param.declared.ids.ProtoId.{ProtoId}
use Rattle.swreq_lexicon.specs.Associated.{name}
use Rattle.swreq_lexicon.specs.Lexicons.{pair}
use Rattle.swreq_lexicon.specs.Symbols.{having, symbols_below, AreStarts}
use Rattle.swreq_lexicon.proofs.SymbolMembers.{symbol_is}
use Rattle.swreq_lexicon.proofs.SymbolPlaces.{filter_place, having_le, length_below, symbol_at}

module _ (order : List ProtoId) (has : ProtoId → NameId → Bool) (n : ℕ) where
  -- the place where the member symbols of a name begin
  pub start_is : (starts : List ℕ) → AreStarts order has n starts → (a x : ℕ) → a ≤ n
      → get_or starts a x ≡ length (symbols_below order has a)
  start_is starts are a x h =
      let size = are.count in
      get_or_default starts a x 0 (omega (arith, size)) ∙ are.each a h

  module _ (p : ProtoId) (a : NameId) where
    pub rank_found : (place : ℕ) → slice_get order place ≡ Some p → a.rank < n → has p a ≡ true
        → slice_get (symbols_below order has n) (length (symbols_below order has a.rank) + length (having (take place order) has a))
        ≡ Some (pair p a)
    rank_found place f h e =
        let within = slice_get_within order place p f in
        let same : get_or order place p ≡ p = get_or_from_slice_get order place p p f in
        let at = filter_place (λ q. has q a) order place p within (ap (λ q. has q a) same ∙ e) ∙ ap Some same in
        symbol_at order has n a.rank (length (having (take place order) has a)) p h
        (slice_get_within (having order has a) (length (having (take place order) has a)) p at) at

    pub rank_nowhere : (Contains order p → ⊥) → Contains (symbols_below order has n) (pair p a) → ⊥
    rank_nowhere none c = none (symbol_is order has n (pair p a) c).ordered

    pub rank_not_had : has p a ≡ false → Contains (symbols_below order has n) (pair p a) → ⊥
    rank_not_had e c = true≢false (sym (symbol_is order has n (pair p a) c).member ∙ e)

    pub rank_past : n ≤ a.rank → Contains (symbols_below order has n) (pair p a) → ⊥
    rank_past h c = let l = (symbol_is order has n (pair p a) c).named in omega (arith, l, h)

    part_le : (place : ℕ) → place ≤ length order → length (having (take place order) has a) ≤ length order
    part_le place h =
        let k = having_le (take place order) has a in
        let l = length-take-le place order h in
        omega (arith, k, l, h)

    pub rank_fits : (place start before : ℕ) → slice_get order place ≡ Some p → a.rank < n → n ≤ 1048576 → length order ≤ 1048576
        → start ≡ length (symbols_below order has a.rank) → before ≡ length (having (take place order) has a) → start + before < 2 ^ 64
    rank_fits place start before f h small few e g =
        let within = slice_get_within order place p f in
        let k = length_below order has a.rank few in
        let l = part_le place (omega arith) in
        omega (arith, k, l, e, g, h, small, few)

  pub pair_at : (a m start : ℕ) (p : ProtoId) → a < n → start ≡ length (symbols_below order has a) → start ≤ m
      → slice_get (having order has (name a)) (m - start) ≡ Some p
      → slice_get (symbols_below order has n) m ≡ Some (pair p (name a))
  pair_at a m start p h e l f =
      let k : m ≡ length (symbols_below order has a) + (m - start) = omega (arith, e) in
      ap (slice_get (symbols_below order has n)) k
      ∙ symbol_at order has n a (m - start) p h (slice_get_within (having order has (name a)) (m - start) p f) f
