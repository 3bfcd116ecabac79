use Rattle.std.proofs.Common.{◌≡◌, ◌<◌, length, subst}
use Rattle.swreq_derive.specs.swreq_param.declared.ids.ProtoId.{ProtoId}
use Rattle.swreq_lexicon.specs.Views.{ProtocolsView, place_by}
use Rattle.swreq_lexicon.proofs.protocols.Protocols.direct.Goals as goal

pub returns-clause-protocols : goal.returns-clause-protocols
returns-clause-protocols c i j step =
    let declared = c.direct.ensures.declared i j step in
    subst (λ (v : ProtocolsView). (q : ProtoId) × (q.rank < length v.protocols) × (place_by v.places q ≡ j)) c.self.view_is
    (c.self.invariant.5 declared.0 j declared.1)
