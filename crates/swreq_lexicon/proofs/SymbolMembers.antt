-- Which member symbols there are, and their order.
use Rattle.std.proofs.Common.{◌≡◌, ℕ, zero, suc, ◌<◌, ◌≤◌, ◌⊎◌, inl, inr, ⊎_elim, Bool, true, ◌&&◌, ◌||◌, nat_eq, List, length, take, Some, Contains, refl, sym, ap, subst, ◌∙◌, arith, eqb-true}
use Rattle.std.specs.List.{AllByRecursion}
use Rattle.std.specs.List.Sorted.{IsStrictlySortedBy}
use Rattle.std.specs.declared.cmp.Ordering.TheVariants.{Less}
use Rattle.std.specs.Ordering.{ordering_then}
use Rattle.std.specs.Cmp.{nat_cmp_is}
use Rattle.std.proofs.lemmas.Bool.{eq-eqb, cases_lt, or_cases, or_left, or_right, and_from, and_parts}
use Rattle.std.proofs.lemmas.Cmp.{nat_cmp_total, tied_itself}
use Rattle.std.proofs.lemmas.List.Elements.{Contains-append_left, Contains-append_right, Contains-append_cases, All-filter, All-contains, All-contains_itself, filter_passes}
use Rattle.std.proofs.lemmas.List.Kept.{IsStrictlySortedBy-filter}
use Rattle.swreq_rank.proofs.swreq_lemmas.Elements.{get_contains}
use Rattle.swreq_rank.proofs.swreq_lemmas.Members.{no_member, each_by_recursion}
use Rattle.swreq_derive.specs.swreq_param.declared.ids.NameId.{NameId}
use Rattle.swreq_derive.specs.swreq_param.declared.ids.ProtoId.{ProtoId}
use Rattle.swreq_lexicon.specs.declared.pair.ProtocolName.{ProtocolName}
use Rattle.swreq_lexicon.specs.Associated.{name, order_cmp, symbol_cmp, HasMember}
use Rattle.swreq_lexicon.specs.Lexicons.{pair}
use Rattle.swreq_lexicon.specs.Symbols.{has_member, having, symbols_of, symbols_below}
use Rattle.swreq_lexicon.proofs.Keyed.{key_of, of_key}
use Rattle.swreq_rank.proofs.Rising.{sorted_nil, sorted_append, sorted_map}
use Rattle.swreq_lexicon.proofs.SymbolPlaces.{filter_place}
use Rattle.swreq_rank.proofs.Tests.{some_passes, passes}

-- ---- which there are

module _ (order : List ProtoId) (has : ProtoId → NameId → Bool) where
  pub record IsSymbol (n : ℕ) (d : ProtocolName) : Type 0 where
    pub named : d.name.rank < n
    pub ordered : Contains order d.proto
    pub member : has d.proto d.name ≡ true

  later : (n : ℕ) (d : ProtocolName) → IsSymbol n d → IsSymbol (suc n) d
  later n d s = let l = s.named in record { named = omega arith; ordered = s.ordered; member = s.member }

  at_last : (n : ℕ) (d : ProtocolName) → Contains (symbols_of order has (name n)) d → IsSymbol (suc n) d
  at_last n d b =
      let k = key_of (λ p. pair p (name n)) (λ (e : ProtocolName). e.proto) (having order has (name n)) d b in
      let s : IsSymbol (suc n) (pair k.0 (name n)) = record {
        named = next n;
        ordered = All-contains (Contains order) (having order has (name n)) k.0
            (All-filter (λ p. has p (name n)) (Contains order) order (All-contains_itself order)) k.1;
        member = All-contains (λ p. has p (name n) ≡ true) (having order has (name n)) k.0 (filter_passes (λ p. has p (name n)) order) k.1;
      } in
      subst (IsSymbol (suc n)) k.2 s
    where
      next : (n : ℕ) → n < suc n
      next n = omega arith

  pub symbol_is : (n : ℕ) (d : ProtocolName) → Contains (symbols_below order has n) d → IsSymbol n d
  symbol_is zero d c = no_member d c
  symbol_is (suc n) d c = ⊎_elim (λ b. later n d (symbol_is n d b)) (at_last n d)
      (Contains-append_cases (symbols_below order has n) (symbols_of order has (name n)) d c)

  having_there : (p : ProtoId) (a : NameId) → Contains order p → has p a ≡ true → Contains (having order has a) p
  having_there p a c e =
      get_contains (having order has a) (length (having (take c.0 order) has a)) p
      (filter_place (λ q. has q a) order c.0 p c.1 (ap (λ q. has q a) c.2 ∙ e) ∙ ap Some c.2)

  pub symbol_there : (n : ℕ) (d : ProtocolName) → d.name.rank < n → Contains order d.proto → has d.proto d.name ≡ true
      → Contains (symbols_below order has n) d
  symbol_there zero d l c e = absurd (omega arith)
  symbol_there (suc n) d l c e = ⊎_elim (λ b.
      Contains-append_left (symbols_below order has n) (symbols_of order has (name n)) d (symbol_there n d b c e)) here (below_or l)
    where
      below_or : d.name.rank < suc n → (d.name.rank < n) ⊎ (d.name.rank ≡ n)
      below_or l = ⊎_elim inl (λ g. inr (same g)) (cases_lt d.name.rank n)
        where
          same : n ≤ d.name.rank → d.name.rank ≡ n
          same g = omega arith

      here : d.name.rank ≡ n → Contains (symbols_below order has (suc n)) d
      here s =
          Contains-append_right (symbols_below order has n) (symbols_of order has (name n)) d
          (subst (λ r. Contains (symbols_of order has (name r)) d) s
          (of_key (λ p. pair p d.name) (λ (e : ProtocolName). e.proto) (having order has d.name) d.proto (having_there d.proto d.name c e)))

-- ---- their order

module _ (inherits : ProtoId → ProtoId → Bool) (count : ℕ) (order : List ProtoId) (has : ProtoId → NameId → Bool)
    (sorted : IsStrictlySortedBy (order_cmp inherits count) order) where
  keeps : (a : NameId) (p q : ProtoId) → order_cmp inherits count p q ≡ Less → symbol_cmp inherits count (pair p a) (pair q a) ≡ Less
  keeps a p q h = ap (λ o. ordering_then o (order_cmp inherits count p q)) (tied_itself nat_cmp_total a.rank) ∙ h

  by_name : (d e : ProtocolName) → d.name.rank < e.name.rank → symbol_cmp inherits count d e ≡ Less
  by_name d e h = ap (λ o. ordering_then o (order_cmp inherits count d.proto e.proto)) (sym (nat_cmp_is d.name.rank e.name.rank Less h))

  named : (n : ℕ) (d : ProtocolName) → Contains (symbols_of order has (name n)) d → d.name.rank ≡ n
  named n d c = let k = key_of (λ p. pair p (name n)) (λ (e : ProtocolName). e.proto) (having order has (name n)) d c in
      ap (λ (e : ProtocolName). e.name.rank) (sym k.2)

  pub symbols_sorted : (n : ℕ) → IsStrictlySortedBy (symbol_cmp inherits count) (symbols_below order has n)
  symbols_sorted zero = sorted_nil (symbol_cmp inherits count)
  symbols_sorted (suc n) =
      sorted_append (symbol_cmp inherits count) (symbols_below order has n) (symbols_of order has (name n)) (symbols_sorted n)
      (sorted_map (order_cmp inherits count) (symbol_cmp inherits count) (λ p. pair p (name n)) (keeps (name n)) (having order has (name n))
      (IsStrictlySortedBy-filter (order_cmp inherits count) (λ p. has p (name n)) order sorted))
      (each_by_recursion (λ d. AllByRecursion (λ e. symbol_cmp inherits count d e ≡ Less) (symbols_of order has (name n)))
      (symbols_below order has n)
      (λ d c. each_by_recursion (λ e. symbol_cmp inherits count d e ≡ Less) (symbols_of order has (name n))
      (λ e b. by_name d e (subst (λ r. d.name.rank < r) (sym (named n e b)) (symbol_is order has n d c).named))))

-- ---- member names

module _ (inherits : ProtoId → ProtoId → Bool) (associated : List ProtocolName) (p : ProtoId) (a : NameId) where
  abbrev test : ProtocolName → Bool
  test d = nat_eq a.rank d.name.rank && (nat_eq p.rank d.proto.rank || inherits p d.proto)

  same_pair : (q : ProtoId) (d : ProtocolName) → q.rank ≡ d.proto.rank → a.rank ≡ d.name.rank → d ≡ pair q a
  same_pair q d e f = λ k. record { proto = record { rank = sym e k }; name = record { rank = sym f k } }

  pub member_from : has_member inherits associated p a ≡ true → HasMember inherits associated p a
  member_from h =
      let s = some_passes test associated h in
      let d = s.0 in
      let n =
      eqb-true a.rank d.name.rank ((and_parts (nat_eq a.rank d.name.rank) (nat_eq p.rank d.proto.rank || inherits p d.proto) s.2).0) in
      ⊎_elim (λ e. inl (subst (λ x. Contains associated x) (same_pair p d (eqb-true p.rank d.proto.rank e) n) s.1))
      (λ e. inr (d.proto, e, subst (λ x. Contains associated x) (same_pair d.proto d refl n) s.1))
      (or_cases (nat_eq p.rank d.proto.rank) (inherits p d.proto)
      ((and_parts (nat_eq a.rank d.name.rank) (nat_eq p.rank d.proto.rank || inherits p d.proto) s.2).1))

  pub member_to : HasMember inherits associated p a → has_member inherits associated p a ≡ true
  member_to h =
      ⊎_elim
      (λ c. passes test associated (pair p a) c (and_from (nat_eq a.rank a.rank) (nat_eq p.rank p.rank || inherits p p)
      (eq-eqb a.rank a.rank refl) (or_left (nat_eq p.rank p.rank) (inherits p p) (eq-eqb p.rank p.rank refl))))
      (λ s. passes test associated (pair s.0 a) s.2 (and_from (nat_eq a.rank a.rank) (nat_eq p.rank s.0.rank || inherits p s.0)
      (eq-eqb a.rank a.rank refl) (or_right (nat_eq p.rank s.0.rank) (inherits p s.0) s.1))) h
