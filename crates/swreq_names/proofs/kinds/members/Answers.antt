use Rattle.std.proofs.Common.{◌∙◌, map}
use Rattle.swreq_names.specs.Spaces.{declarations}
use Rattle.swreq_names.proofs.Pieces.{mapped_more}
use Rattle.swreq_names.proofs.kinds.members.Goals as goal

pub loop-protocol-preserved : goal.loop-protocol-preserved
loop-protocol-preserved c =
    mapped_more (λ p. declarations c.args.text.now (map (λ m. m.name) p.members)) c.args.protocols.now c.loop-protocol.protocol-index
    c.protocol-item.result c.in_ok-names.names
    c.loop-protocol.found.items c.push.new.self.items c.loop-protocol-test.true c.protocol-item.is c.in_ok-push.ensures.items
    (c.in_ok-names.ensures ∙ (λ j. declarations c.args.text.now (map (λ m. m.name) (c.items.ensures j)))) c.loop-protocol.invariant
