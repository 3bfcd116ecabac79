use Rattle.std.proofs.Common.{◌≡◌, ◌∙◌, ◌≤◌, ◌<◌, ◌↔◌, Bool, List, length, map, Contains, sym, ap, subst, arith}
use Rattle.std.proofs.lemmas.List.{length-map}
use Rattle.swreq_derive.specs.swreq_param.declared.ids.ProtoId.{ProtoId}
use Rattle.swreq_lexicon.specs.declared.pair.ProtocolName.{ProtocolName}
use Rattle.swreq_lexicon.specs.declared.associated.AssocKey.{AssocKey}
use Rattle.swreq_lexicon.specs.Keys.{key, pair_of}
use Rattle.swreq_lexicon.specs.Symbols.{AreDeclarers}
use Rattle.swreq_lexicon.specs.Views.{inherits_by}
use Rattle.swreq_lexicon.proofs.Declarers.{same_declarers}
use Rattle.swreq_lexicon.proofs.KeyOrders.{ranked_pairs, ranked_sorted}
use Rattle.swreq_lexicon.proofs.PairKeys.{keys_apart}
use Rattle.swreq_lexicon.proofs.associated.Associated.of.Goals as goal

-- the ranked keys are the keys of the pairs
module _ (inherits : ProtoId → ProtoId → Bool) (pairs given : List ProtocolName) (keys ranked : List AssocKey) where
  same_keys : given ≡ pairs → keys ≡ map (key inherits given) given → ((k : AssocKey) → Contains ranked k ↔ Contains keys k)
      → (k : AssocKey) → Contains ranked k ↔ Contains (map (key inherits pairs) pairs) k
  same_keys e f same =
      subst (λ (ks : List AssocKey). (k : AssocKey) → Contains ranked k ↔ Contains ks k) (f ∙ ap (λ ds. map (key inherits ds) ds) e) same

  few_keys : given ≡ pairs → keys ≡ map (key inherits given) given → length ranked ≤ length keys → length pairs ≤ 1048576
      → length ranked ≤ 1048576
  few_keys e f few small =
      let n = ap length (f ∙ ap (λ ds. map (key inherits ds) ds) e) ∙ length-map pairs (key inherits pairs) in
      omega (arith, n, few, small)

pub of-ranked-requires : goal.of-ranked-requires
of-ranked-requires c = keys_apart

pub declarers_of-requires : goal.declarers_of-requires
declarers_of-requires c = subst (λ (xs : List ProtocolName). (d : ProtocolName) → Contains xs d → d.name.rank < c.args.names)
    (sym c.deref.ensures.value) c.requires.within

pub keys-requires : goal.keys-requires
keys-requires c =
    subst (λ (xs : List ProtocolName). AreDeclarers xs c.in_ok-declarers.declarers) (c.deref.ensures.value ∙ sym c.deref-2.ensures.value)
    c.in_ok-declarers.ensures

pub returns-clause-within : goal.returns-clause-within
returns-clause-within c d h =
    let inherits = inherits_by c.args.protocols.now.places c.args.protocols.now.resolved.inherits in
    let same = ranked_pairs inherits c.args.pairs.items c.of-ranked.result
    (same_keys inherits c.args.pairs.items c.deref-2.result.now c.in_ok-keys.field-0.items c.of-ranked.result c.deref-2.ensures.value
    c.in_ok-keys.ensures c.of-ranked.ensures.same) in
    c.requires.within d ((same d).0 h)

pub returns-clause-same : goal.returns-clause-same
returns-clause-same c =
    let inherits = inherits_by c.args.protocols.now.places c.args.protocols.now.resolved.inherits in
    ranked_pairs inherits c.args.pairs.items c.of-ranked.result
    (same_keys inherits c.args.pairs.items c.deref-2.result.now c.in_ok-keys.field-0.items c.of-ranked.result c.deref-2.ensures.value
    c.in_ok-keys.ensures c.of-ranked.ensures.same)

pub returns-clause-sorted : goal.returns-clause-sorted
returns-clause-sorted c =
    let inherits = inherits_by c.args.protocols.now.places c.args.protocols.now.resolved.inherits in
    ranked_sorted inherits c.args.pairs.items c.of-ranked.result
    (same_keys inherits c.args.pairs.items c.deref-2.result.now c.in_ok-keys.field-0.items c.of-ranked.result c.deref-2.ensures.value
    c.in_ok-keys.ensures c.of-ranked.ensures.same)
    c.items-sorted.ensures.sorted

pub invariant_of-result : goal.invariant_of-result
invariant_of-result c =
    let inherits = inherits_by c.args.protocols.now.places c.args.protocols.now.resolved.inherits in (
      same_declarers c.args.pairs.items (map pair_of c.of-ranked.result) c.in_ok-declarers.declarers
          (ranked_pairs inherits c.args.pairs.items c.of-ranked.result
          (same_keys inherits c.args.pairs.items c.deref-2.result.now c.in_ok-keys.field-0.items c.of-ranked.result c.deref-2.ensures.value
          c.in_ok-keys.ensures c.of-ranked.ensures.same))
          (subst (λ (xs : List ProtocolName). AreDeclarers xs c.in_ok-declarers.declarers) c.deref.ensures.value c.in_ok-declarers.ensures),
      few_keys inherits c.args.pairs.items c.deref-2.result.now c.in_ok-keys.field-0.items c.of-ranked.result c.deref-2.ensures.value
          c.in_ok-keys.ensures c.of-ranked.ensures.count c.requires.few,
      λ d.
          let same = ranked_pairs inherits c.args.pairs.items c.of-ranked.result
          (same_keys inherits c.args.pairs.items c.deref-2.result.now c.in_ok-keys.field-0.items c.of-ranked.result c.deref-2.ensures.value
          c.in_ok-keys.ensures c.of-ranked.ensures.same) d in
          (same.1, same.0),
    )
