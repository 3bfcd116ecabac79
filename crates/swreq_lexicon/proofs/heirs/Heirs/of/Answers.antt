use Rattle.std.proofs.Common.{◌∙◌, ap, length, subst, sym}
use Rattle.swreq_lexicon.specs.Heirs.{AreAllHeirs, AreDirectHeirs, ArePositions, HavePositions}
use Rattle.swreq_lexicon.proofs.Upwards.{heirs_within, all_heirs}
use Rattle.swreq_lexicon.proofs.heirs.Heirs.of.Goals as goal

pub of-requires : goal.of-requires
of-requires c =
    let order = c.protos-order.result.now in
    let places = c.args.protocols.now.places in
    let positions = c.deref.result.now in
    let direct = c.direct-direct.result.now in
    let up = c.deref-2.result.now in
    heirs_within order places positions direct up
    (subst (ArePositions order places) (sym c.deref.ensures.value) c.in_ok-positions.ensures.are)
    (subst (AreDirectHeirs order places positions direct (length order)) (sym c.deref-2.ensures.value) c.in_ok-heirs.ensures.are)
    (ap length c.deref-2.ensures.value ∙ c.in_ok-heirs.ensures.len)

pub returns : goal.returns
returns c =
    let order = c.protos-order.result.now in
    let places = c.args.protocols.now.places in
    let count = length c.args.protocols.now.protocols in
    let positions = c.deref.result.now in
    let direct = c.direct-direct.result.now in
    let up = c.deref-2.result.now in
    let inherits = c.args.protocols.now.resolved.inherits in
    let all = all_heirs order places positions direct up
    (subst (ArePositions order places) (sym c.deref.ensures.value) c.in_ok-positions.ensures.are)
    (subst (AreDirectHeirs order places positions direct (length order)) (sym c.deref-2.ensures.value) c.in_ok-heirs.ensures.are)
    count c.direct-direct.ensures.protocols c.direct-direct.ensures.within
    (ap length c.deref.ensures.value ∙ c.in_ok-positions.ensures.len)
    (subst (λ xs. HavePositions order places xs (length order)) (sym c.deref.ensures.value) c.in_ok-positions.ensures.all)
    (λ p h. rw c.protos-order.ensures (c.requires p h))
    c.in_ok-closure.closure inherits c.in_ok-closure.ensures.closure c.direct-direct.ensures.closure in
    let rows = c.in_ok-closure.closure in
    subst (λ xs. AreAllHeirs c.args.ordered.now places inherits (record { positions = xs; rows = rows })) c.deref.ensures.value
    (subst (λ ps. AreAllHeirs ps places inherits (record { positions = positions; rows = rows })) c.protos-order.ensures all)
