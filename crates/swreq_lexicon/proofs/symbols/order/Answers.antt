use Rattle.std.proofs.Common.{◌∙◌, ◌≤◌, ◌<◌, ◌↔◌, List, length, map, Contains, sym, ap, subst, arith}
use Rattle.swreq_derive.specs.swreq_param.declared.ids.ProtoId.{ProtoId}
use Rattle.swreq_lexicon.specs.declared.symbols.OrderKey.{OrderKey}
use Rattle.swreq_lexicon.specs.Associated.{order_cmp}
use Rattle.swreq_rank.specs.Ranks.{IsRanking}
use Rattle.swreq_lexicon.specs.Views.{inherits_by}
use Rattle.swreq_lexicon.proofs.OrderKeys.{order_ranking, order_few}
use Rattle.swreq_lexicon.proofs.symbols.order.Goals as goal

pub returns-clause-ranking : goal.returns-clause-ranking
returns-clause-ranking c =
    let inherits = inherits_by c.args.protocols.now.places c.args.protocols.now.resolved.inherits in
    let n = length c.args.protocols.now.protocols in
    subst (λ (ps : List ProtoId). IsRanking (order_cmp inherits n) (λ p. p.rank < n) ps)
    (sym (c.in_ok-order.ensures ∙ ap (λ (ks : List OrderKey). map (λ k. k.proto) ks) c.items.ensures.items))
    (order_ranking inherits n c.of-ranked.result
    (subst (λ (ks : List OrderKey). (k : OrderKey) → Contains c.of-ranked.result k ↔ Contains ks k) c.in_ok-keys.ensures
    c.of-ranked.ensures.same)
    c.items.ensures.sorted)

pub returns-clause-few : goal.returns-clause-few
returns-clause-few c =
    let inherits = inherits_by c.args.protocols.now.places c.args.protocols.now.resolved.inherits in
    let n = length c.args.protocols.now.protocols in
    let small : n ≤ 1048576 = let e = c.len-count.ensures.is in let s = c.len-count.ensures.small in omega (arith, e, s) in
    let count : length c.of-ranked.result ≤ length c.in_ok-keys.field-0.items = c.of-ranked.ensures.count in
    subst (λ (ps : List ProtoId). length ps ≤ 1048576)
    (sym (c.in_ok-order.ensures ∙ ap (λ (ks : List OrderKey). map (λ k. k.proto) ks) c.items.ensures.items))
    (order_few inherits n c.of-ranked.result
    (subst (λ (ks : List OrderKey). (k : OrderKey) → Contains c.of-ranked.result k ↔ Contains ks k) c.in_ok-keys.ensures
    c.of-ranked.ensures.same)
    c.items.ensures.sorted
    (subst (λ (ks : List OrderKey). length c.of-ranked.result ≤ length ks) c.in_ok-keys.ensures count) small)
