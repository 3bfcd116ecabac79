use Rattle.std.proofs.Common.{◌≡◌, ◌∙◌, ◌+◌, ℕ, List, length, get_or, take, slice_get, Some, ap, sym, subst, arith}
use Rattle.swreq_derive.specs.swreq_param.declared.ids.ProtoId.{ProtoId}
use Rattle.swreq_lexicon.specs.Symbols.{has_member, having}
use Rattle.swreq_lexicon.specs.Views.{inherits_by}
use Rattle.swreq_lexicon.proofs.SymbolPlaces.{filter_place}
use Rattle.swreq_lexicon.proofs.symbols.nth.Goals as goal

reached : (left before place : ℕ) → left + before ≡ place → left ≡ 0 → place ≡ before
reached left before place e z = omega arith

pub returns-then-left-eq0 : goal.returns-then-left-eq0
returns-then-left-eq0 c =
    let has = has_member (inherits_by c.args.protocols.now.places c.args.protocols.now.resolved.inherits) c.args.associated.now in
    let first : ProtoId = record { rank = 0 } in
    let order = c.args.ordered.now in
    let protos = c.protos-q-items.result.now in
    let i = c.loop-q.q-index in
    ap (slice_get (having order has c.args.name))
    (reached c.loop-q.left (length (having (take i order) has c.args.name)) c.args.place c.loop-q.invariant c.if-left-eq0.true)
    ∙ subst (λ (ps : List ProtoId).
    slice_get (having ps has c.args.name) (length (having (take i ps) has c.args.name)) ≡ Some (get_or protos i first))
    c.protos-q-items.ensures
    (filter_place (λ q. has q c.args.name) protos i first c.loop-q-test.true (sym c.has-here.ensures ∙ c.if-here.true))
