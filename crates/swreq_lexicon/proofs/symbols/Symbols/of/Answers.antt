use Rattle.std.proofs.Common.{◌≡◌, ◌<◌, ◌+◌, ◌≤◌, ℕ, List, length, get_or, take, sum, ap, sym, subst}
use Rattle.swreq_derive.specs.swreq_param.declared.ids.ProtoId.{ProtoId}
use Rattle.swreq_rank.specs.Ranks.{IsRanking}
use Rattle.swreq_lexicon.specs.Associated.{order_cmp}
use Rattle.swreq_lexicon.specs.Symbols.{has_member}
use Rattle.swreq_lexicon.specs.Views.{inherits_by}
use Rattle.swreq_lexicon.proofs.Orders.{ordered_once}
use Rattle.swreq_lexicon.proofs.Rows.{counts_are}
use Rattle.swreq_lexicon.proofs.SymbolPlaces.{counts_small, starts_are}
use Rattle.swreq_lexicon.proofs.symbols.Symbols.of.Goals as goal

pub of-requires-clause-within : goal.of-requires-clause-within
of-requires-clause-within c p h = subst (λ n. p.rank < n) (sym c.len.ensures.is) ((c.in_ok-protos.ensures.ranking.same p).0 h)

pub of-requires-clause-once : goal.of-requires-clause-once
of-requires-clause-once c =
    ordered_once (inherits_by c.args.protocols.now.places c.args.protocols.now.resolved.inherits)
    (length c.args.protocols.now.protocols) c.in_ok-protos.protos.items c.in_ok-protos.ensures.ranking

pub of-requires-2-clause-all : goal.of-requires-2-clause-all
of-requires-2-clause-all c p h = rw c.in_ok-ordered.ensures ((c.in_ok-protos.ensures.ranking.same p).1 h)

pub returns-clause-order : goal.returns-clause-order
returns-clause-order c =
    let n = length c.args.protocols.now.protocols in
    subst (λ (ps : List ProtoId).
    IsRanking (order_cmp (inherits_by c.args.protocols.now.places c.args.protocols.now.resolved.inherits) n) (λ p. p.rank < n) ps)
    (sym c.in_ok-ordered.ensures) c.in_ok-protos.ensures.ranking

pub starts-requires-clause-small : goal.starts-requires-clause-small
starts-requires-clause-small c a =
    let has = has_member (inherits_by c.args.protocols.now.places c.args.protocols.now.resolved.inherits) c.args.associated.now in
    let are = counts_are c.in_ok-ordered.ordered has c.in_ok-members.members c.in_ok-members.ensures c.args.names
    (length c.protos.result.now) (ap length c.protos.ensures)
    c.in_ok-counts.counts.items c.in_ok-counts.ensures.len c.in_ok-counts.ensures.each in
    let few : length c.in_ok-ordered.ordered ≤ 1048576 =
    subst (λ (ps : List ProtoId). length ps ≤ 1048576) (sym c.in_ok-ordered.ensures) c.in_ok-protos.ensures.few in
    subst (λ (xs : List ℕ). get_or xs a 0 ≤ 1048576) (sym c.deref.ensures.value)
    (counts_small c.in_ok-ordered.ordered has c.args.names c.in_ok-counts.counts.items are few a)

pub returns-clause-starts : goal.returns-clause-starts
returns-clause-starts c =
    let has = has_member (inherits_by c.args.protocols.now.places c.args.protocols.now.resolved.inherits) c.args.associated.now in
    let are = counts_are c.in_ok-ordered.ordered has c.in_ok-members.members c.in_ok-members.ensures c.args.names
    (length c.protos.result.now) (ap length c.protos.ensures)
    c.in_ok-counts.counts.items c.in_ok-counts.ensures.len c.in_ok-counts.ensures.each in
    starts_are c.in_ok-ordered.ordered has c.args.names c.in_ok-counts.counts.items c.in_ok-starts.starts.items are
    (subst (λ (xs : List ℕ). length c.in_ok-starts.starts.items ≡ length xs + 1) c.deref.ensures.value c.in_ok-starts.ensures.len)
    (subst (λ (xs : List ℕ). (a : ℕ) → a ≤ length xs → get_or c.in_ok-starts.starts.items a 0 ≡ sum (take a xs)) c.deref.ensures.value
    c.in_ok-starts.ensures.each)
