-- Associated types among the keys that rank them.
use Rattle.std.proofs.Common.{◌≡◌, ℕ, ◌<◌, Bool, true, false, ◌&&◌, nat_eq, List, length, map, get_or, slice_get, Some, None, Contains, refl, sym, ap, subst, ◌∙◌, arith}
use Rattle.std.proofs.lemmas.Bool.Decides.{nat_tests}
use Rattle.std.specs.List.{position}
use Rattle.std.specs.declared.cmp.Ordering.TheVariants.{Less, Equal}
use Rattle.std.specs.Ordering.{nat_cmp, bool_cmp, ordering_then}
use Rattle.std.specs.FinSet.{nat_cmp-IsAntisymmetric}
use Rattle.std.proofs.lemmas.Bool.{eqb-true, false_from_ne_true}
use Rattle.std.proofs.lemmas.Cmp.{nat_cmp_total, tied_itself}
use Rattle.std.proofs.lemmas.List.{get_or_default, length-map}
use Rattle.std.proofs.lemmas.Option.{slice_get_within, get_or_from_slice_get}
use Rattle.swreq_rank.proofs.swreq_lemmas.Orderings.{then_equal}
use Rattle.swreq_lexicon.proofs.Mapped.{at_map_any}
use Rattle.swreq_derive.specs.swreq_param.declared.ids.NameId.{NameId}
use Rattle.swreq_derive.specs.swreq_param.declared.ids.ProtoId.{ProtoId}
use Rattle.swreq_rank.specs.Ranks.{TellsApart}
use Rattle.swreq_rank.proofs.Rising.{IsRising}
use Rattle.swreq_lexicon.specs.declared.pair.ProtocolName.{ProtocolName}
use Rattle.swreq_lexicon.specs.declared.associated.AssocKey.{AssocKey}
use Rattle.swreq_lexicon.specs.contracts.associated.AssocKeyOrd.TheImpl.{cmp-value}
use Rattle.swreq_lexicon.specs.Lexicons.{is_pair}
use Rattle.swreq_lexicon.specs.Keys.{pair_of}
use Rattle.swreq_lexicon.proofs.Positions.{is_first, is_none}

abbrev pub key : ProtoId → NameId → Bool → AssocKey
key p a b = record { name = a; inherited = b; proto = p }

same_bools : (a b : Bool) → bool_cmp a b ≡ Equal → a ≡ b
same_bools true true h = refl
same_bools true false h = absurd cc
same_bools false true h = absurd cc
same_bools false false h = refl

pub keys_apart : TellsApart cmp-value.it
keys_apart x y h =
    let e =
    then_equal (nat_cmp x.name.rank y.name.rank) (ordering_then (bool_cmp x.inherited y.inherited) (nat_cmp x.proto.rank y.proto.rank)) h in
    let f = then_equal (bool_cmp x.inherited y.inherited) (nat_cmp x.proto.rank y.proto.rank) e.1 in
    let n = nat_cmp-IsAntisymmetric x.name.rank y.name.rank e.0 in
    let b = same_bools x.inherited y.inherited f.0 in
    let p = nat_cmp-IsAntisymmetric x.proto.rank y.proto.rank f.1 in
    λ i. record { name = record { rank = n i }; inherited = b i; proto = record { rank = p i } }

both : (b c : Bool) → b && c ≡ true → (b ≡ true) × (c ≡ true)
both true c h = (refl, h)
both false c h = absurd cc

is_key : (p : ProtoId) (a : NameId) (k : AssocKey) → is_pair p a (pair_of k) ≡ true → k ≡ key p a k.inherited
is_key p a k h =
    let e = both (nat_eq p.rank k.proto.rank) (nat_eq a.rank k.name.rank) h in
    let q = eqb-true p.rank k.proto.rank e.0 in
    let n = eqb-true a.rank k.name.rank e.1 in
    λ i. record { name = record { rank = sym n i }; inherited = k.inherited; proto = record { rank = sym q i } }

pub pair_same : (p : ProtoId) (a : NameId) (d : ProtocolName) → is_pair p a d ≡ true → d ≡ record { proto = p; name = a }
pair_same p a d h =
    let e = both (nat_eq p.rank d.proto.rank) (nat_eq a.rank d.name.rank) h in
    let q = eqb-true p.rank d.proto.rank e.0 in
    let n = eqb-true a.rank d.name.rank e.1 in
    λ i. record { proto = record { rank = sym q i }; name = record { rank = sym n i } }

pub is_pair_itself : (p : ProtoId) (a : NameId) → nat_eq p.rank p.rank && nat_eq a.rank a.rank ≡ true
is_pair_itself p a = grind (arith, nat_tests)

alike : (p : ProtoId) (a : NameId) (b c : Bool)
    → cmp-value.it (key p a b) (key p a c) ≡ ordering_then Equal (ordering_then (bool_cmp b c) Equal)
alike p a b c = λ i. ordering_then (tied_itself nat_cmp_total a.rank i) (ordering_then (bool_cmp b c) (tied_itself nat_cmp_total p.rank i))

not_before_root : (p : ProtoId) (a : NameId) (b : Bool) → cmp-value.it (key p a b) (key p a false) ≡ Less → ⊥
not_before_root p a true h = let e = sym (alike p a true false) ∙ h in absurd cc
not_before_root p a false h = let e = sym (alike p a false false) ∙ h in absurd cc

not_before_itself : (p : ProtoId) (a : NameId) (b : Bool) → cmp-value.it (key p a b) (key p a b) ≡ Less → ⊥
not_before_itself p a true h = let e = sym (alike p a true true) ∙ h in absurd cc
not_before_itself p a false h = let e = sym (alike p a false false) ∙ h in absurd cc

module _ (ks : List AssocKey) (rising : IsRising cmp-value.it ks) (p : ProtoId) (a : NameId) where
  -- the test of the item at a place, or of the default past the end
  at_map : (i : ℕ) (d : AssocKey) → is_pair p a (get_or (map pair_of ks) i (pair_of d)) ≡ is_pair p a (pair_of (get_or ks i d))
  at_map i d = ap (is_pair p a) (at_map_any pair_of ks i d)

  key_at : (i : ℕ) (d : AssocKey) → is_pair p a (get_or (map pair_of ks) i (pair_of d)) ≡ true
      → get_or ks i d ≡ key p a (get_or ks i d).inherited
  key_at i d h = is_key p a (get_or ks i d) (sym (at_map i d) ∙ h)

  first_at : (i : ℕ) (b : Bool) → slice_get ks i ≡ Some (key p a b)
      → ((j : ℕ) → j < i → is_pair p a (get_or (map pair_of ks) j (pair_of (key p a b))) ≡ true → ⊥)
      → position (is_pair p a) (map pair_of ks) ≡ Some i
  first_at i b h none =
      is_first (is_pair p a) (map pair_of ks) i (pair_of (key p a b))
      (subst (λ n. i < n) (sym (length-map ks pair_of)) (slice_get_within ks i (key p a b) h))
      (at_map i (key p a b) ∙ ap (λ k. is_pair p a (pair_of k)) (get_or_from_slice_get ks i (key p a b) (key p a b) h) ∙ is_pair_itself p a)
      (λ j l. false_from_ne_true (is_pair p a (get_or (map pair_of ks) j (pair_of (key p a b)))) (none j l))

  -- key j comes before key i
  before : (i j : ℕ) (b : Bool) → slice_get ks i ≡ Some (key p a b) → j < i → cmp-value.it (get_or ks j (key p a b)) (key p a b) ≡ Less
  before i j b h l = subst (λ k. cmp-value.it (get_or ks j (key p a b)) k ≡ Less) (get_or_from_slice_get ks i (key p a b) (key p a b) h)
      (rising j i (key p a b) l (slice_get_within ks i (key p a b) h))

  pub root_at : (i : ℕ) → slice_get ks i ≡ Some (key p a false) → position (is_pair p a) (map pair_of ks) ≡ Some i
  root_at i h = first_at i false h (λ j l t.
      not_before_root p a (get_or ks j (key p a false)).inherited
      (subst (λ k. cmp-value.it k (key p a false) ≡ Less) (key_at j (key p a false) t) (before i j false h l)))

  there : (j : ℕ) (d : AssocKey) (b : Bool) → j < length ks → get_or ks j d ≡ key p a b → Contains ks (key p a b)
  there j d b l e = (j, l, get_or_default ks j (key p a b) d l ∙ e)

  pub other_at : (i : ℕ) → (Contains ks (key p a false) → ⊥) → slice_get ks i ≡ Some (key p a true)
      → position (is_pair p a) (map pair_of ks) ≡ Some i
  other_at i lacks h = first_at i true h (λ j l t. by j l (get_or ks j (key p a true)).inherited (key_at j (key p a true) t))
    where
      by : (j : ℕ) → j < i → (b : Bool) → get_or ks j (key p a true) ≡ key p a b → ⊥
      by j l true e = not_before_itself p a true (subst (λ k. cmp-value.it k (key p a true) ≡ Less) e (before i j true h l))
      by j l false e =
          let w : i < length ks = slice_get_within ks i (key p a true) h in lacks (there j (key p a true) false (omega arith) e)

  pub nowhere : (Contains ks (key p a false) → ⊥) → (Contains ks (key p a true) → ⊥) → position (is_pair p a) (map pair_of ks) ≡ None
  nowhere lacks none = is_none (is_pair p a) (map pair_of ks) (pair_of (key p a true))
      (λ j l. false_from_ne_true (is_pair p a (get_or (map pair_of ks) j (pair_of (key p a true))))
      (λ t. by j (subst (λ n. j < n) (length-map ks pair_of) l) (get_or ks j (key p a true)).inherited (key_at j (key p a true) t)))
    where
      by : (j : ℕ) → j < length ks → (b : Bool) → get_or ks j (key p a true) ≡ key p a b → ⊥
      by j l true e = none (there j (key p a true) true l e)
      by j l false e = lacks (there j (key p a true) false l e)
