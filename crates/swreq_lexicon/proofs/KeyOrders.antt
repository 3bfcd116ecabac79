-- Keys in the order of what they rank.
use Rattle.std.proofs.Common.{◌≡◌, Bool, true, false, cond, not, ◌&&◌, nat_eq, ◌↔◌, List, [], ◌∷◌, map, Contains, refl, sym, ap, subst, ◌∙◌}
use Rattle.std.specs.Ordering.{nat_cmp, bool_cmp, ordering_then}
use Rattle.std.specs.List.Sorted.{IsStrictlySortedBy}
use Rattle.swreq_derive.specs.swreq_param.declared.ids.ProtoId.{ProtoId}
use Rattle.swreq_lexicon.specs.declared.pair.ProtocolName.{ProtocolName}
use Rattle.swreq_lexicon.specs.declared.associated.AssocKey.{AssocKey}
use Rattle.swreq_lexicon.specs.contracts.associated.AssocKeyOrd.TheImpl.{cmp-value}
use Rattle.swreq_lexicon.specs.Associated.{inherits_name, assoc_cmp}
use Rattle.swreq_lexicon.specs.Keys.{key, pair_of}
use Rattle.swreq_lexicon.proofs.Keyed.{GoesBy, key_of, keyed_same, keyed_rises}
use Rattle.swreq_rank.proofs.Rising.{rising_from_sorted, sorted_from_rising}
use Rattle.swreq_rank.proofs.Tests.{same_members}

roots_first : (a b : Bool) → nat_cmp (cond (not a) 0 1) (cond (not b) 0 1) ≡ bool_cmp a b
roots_first true true = refl
roots_first true false = refl
roots_first false true = refl
roots_first false false = refl

abbrev any : ProtocolName → AssocKey
any d = record { name = d.name; inherited = true; proto = d.proto }

module _ (inherits : ProtoId → ProtoId → Bool) (pairs : List ProtocolName) (ranked : List AssocKey)
    (same : (k : AssocKey) → Contains ranked k ↔ Contains (map (key inherits pairs) pairs) k) where
  -- the pairs of the keys are the associated types
  map_key : (ds : List ProtocolName) → map pair_of (map (key inherits pairs) ds) ≡ ds
  map_key [] = refl
  map_key (d ∷ ds) = ap (λ xs. d ∷ xs) (map_key ds)

  pub ranked_pairs : (d : ProtocolName) → Contains (map pair_of ranked) d ↔ Contains pairs d
  ranked_pairs d =
      let e = keyed_same pair_of any (map (key inherits pairs) pairs) ranked same d in
      (λ c. subst (λ xs. Contains xs d) (map_key pairs) (e.0 c), λ c. e.1 (subst (λ xs. Contains xs d) (sym (map_key pairs)) c))

  flag : (k : AssocKey) → Contains (map (key inherits pairs) pairs) k
      → k.inherited ≡ inherits_name inherits (map pair_of ranked) k.proto k.name
  flag k c =
      let d = key_of (key inherits pairs) pair_of pairs k c in
      ap (λ (x : AssocKey). x.inherited) (sym d.2)
      ∙ sym (same_members (λ e. nat_eq d.0.name.rank e.name.rank && inherits d.0.proto e.proto) (map pair_of ranked) pairs ranked_pairs)
      ∙ ap (λ (x : AssocKey). inherits_name inherits (map pair_of ranked) x.proto x.name) d.2

  goes : GoesBy cmp-value.it pair_of (assoc_cmp inherits (map pair_of ranked)) (map (key inherits pairs) pairs)
  goes k l c d =
      let e =
      roots_first (inherits_name inherits (map pair_of ranked) k.proto k.name) (inherits_name inherits (map pair_of ranked) l.proto l.name)
      ∙ (λ i. bool_cmp (sym (flag k c) i) (sym (flag l d) i)) in
      λ i. ordering_then (nat_cmp k.name.rank l.name.rank) (ordering_then (e i) (nat_cmp k.proto.rank l.proto.rank))

  pub ranked_sorted : IsStrictlySortedBy cmp-value.it ranked
      → IsStrictlySortedBy (assoc_cmp inherits (map pair_of ranked)) (map pair_of ranked)
  ranked_sorted s =
      sorted_from_rising (assoc_cmp inherits (map pair_of ranked)) (map pair_of ranked)
      (keyed_rises pair_of any cmp-value.it (map (key inherits pairs) pairs) ranked same (rising_from_sorted cmp-value.it ranked s)
      (assoc_cmp inherits (map pair_of ranked)) goes)
