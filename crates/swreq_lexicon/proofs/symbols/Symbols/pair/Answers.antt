use Rattle.std.proofs.Common.{◌≡◌, ◌∙◌, ◌+◌, ◌-◌, ◌<◌, ◌≤◌, ℕ, List, length, get_or, slice_get, ap, sym, subst, arith, add-one}
use Rattle.swreq_derive.specs.swreq_param.declared.ids.ProtoId.{ProtoId}
use Rattle.swreq_lexicon.specs.Associated.{name}
use Rattle.swreq_lexicon.specs.Symbols.{has_member, having, symbols_below, AreRows, SymbolsView}
use Rattle.swreq_lexicon.specs.Views.{inherits_by}
use Rattle.swreq_lexicon.proofs.SymbolPlaces.{length_more}
use Rattle.swreq_lexicon.proofs.SymbolRanks.{start_is, pair_at}
use Rattle.swreq_lexicon.proofs.symbols.Symbols.pair.Goals as goal

pub nth-proto-requires-clause-rows : goal.nth-proto-requires-clause-rows
nth-proto-requires-clause-rows c =
    let has = has_member (inherits_by c.args.protocols.now.places c.args.protocols.now.resolved.inherits) c.args.associated.now in
    subst (λ (v : SymbolsView). AreRows v.order has v.rows) (sym c.self.view_is) c.requires.rows

pub nth-proto-requires-clause-within : goal.nth-proto-requires-clause-within
nth-proto-requires-clause-within c =
    let has = has_member (inherits_by c.args.protocols.now.places c.args.protocols.now.resolved.inherits) c.args.associated.now in
    let order = c.args.self.now.order in
    let starts = c.args.self.now.starts in
    let a = c.last_from-place.result in
    let within = c.last_from-place.ensures.within in
    let start : c.index.result.now ≡ length (symbols_below order has a) =
    c.index.ensures ∙ ap (λ (v : SymbolsView). get_or v.starts a c.index.result.now) c.self.view_is
    ∙ start_is order has c.args.names starts c.requires.starts a c.index.result.now (omega (arith, within)) in
    let from : length (symbols_below order has a) ≤ c.args.rank =
    subst (λ k. k ≤ c.args.rank)
    (ap (λ (xs : List ℕ). get_or xs a 0) c.deref.ensures.value ∙ ap (λ (v : SymbolsView). get_or v.starts a 0) c.self.view_is
    ∙ start_is order has c.args.names starts c.requires.starts a 0 (omega (arith, within))) c.last_from-place.ensures.from in
    let to : c.args.rank < length (symbols_below order has a) + length (having order has (name a)) =
    subst (λ k. c.args.rank < k)
    (ap (λ (xs : List ℕ). get_or xs (a + 1) 0) c.deref.ensures.value ∙ ap (λ (v : SymbolsView). get_or v.starts (a + 1) 0) c.self.view_is
    ∙ start_is order has c.args.names starts c.requires.starts (a + 1) 0 (omega (arith, within))
    ∙ ap (λ k. length (symbols_below order has k)) (add-one a) ∙ length_more order has a) c.last_from-place.ensures.to in
    let left : c.args.rank - c.index.result.now < length (having order has (name a)) = omega (arith, start, from, to) in
    subst (λ (ps : List ProtoId). c.args.rank - c.index.result.now < length (having ps has (name a)))
    (sym (ap (λ (v : SymbolsView). v.order) c.self.view_is)) left

pub returns : goal.returns
returns c =
    let has = has_member (inherits_by c.args.protocols.now.places c.args.protocols.now.resolved.inherits) c.args.associated.now in
    let a = c.last_from-place.result in
    let within = c.last_from-place.ensures.within in
    let start : c.index.result.now ≡ length (symbols_below c.args.self.now.order has a) =
    c.index.ensures ∙ ap (λ (v : SymbolsView). get_or v.starts a c.index.result.now) c.self.view_is
    ∙ start_is c.args.self.now.order has c.args.names c.args.self.now.starts c.requires.starts a c.index.result.now
    (omega (arith, within)) in
    let from : length (symbols_below c.args.self.now.order has a) ≤ c.args.rank =
    subst (λ k. k ≤ c.args.rank)
    (ap (λ (xs : List ℕ). get_or xs a 0) c.deref.ensures.value ∙ ap (λ (v : SymbolsView). get_or v.starts a 0) c.self.view_is
    ∙ start_is c.args.self.now.order has c.args.names c.args.self.now.starts c.requires.starts a 0 (omega (arith, within)))
    c.last_from-place.ensures.from in
    pair_at c.args.self.now.order has c.args.names a c.args.rank c.index.result.now c.nth-proto.result within start
    (omega (arith, start, from))
    (ap (λ (ps : List ProtoId). slice_get (having ps has (name a)) (c.args.rank - c.index.result.now))
    (sym (ap (λ (v : SymbolsView). v.order) c.self.view_is))
    ∙ c.nth-proto.ensures)
