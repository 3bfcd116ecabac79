use Rattle.std.proofs.Common.{◌≡◌, ◌∙◌, get_or}
use Rattle.std.proofs.lemmas.List.{get_or_default}
use Rattle.swreq_lexicon.specs.declared.pair.ProtocolName.{ProtocolName}
use Rattle.swreq_lexicon.specs.Associated.{inherits_name}
use Rattle.swreq_lexicon.specs.Keys.{key}
use Rattle.swreq_lexicon.specs.Views.{inherits_by}
use Rattle.swreq_names.proofs.Pieces.{mapped_more}
use Rattle.swreq_lexicon.proofs.Declarers.{any_declarer}
use Rattle.swreq_lexicon.proofs.associated.keys.Goals as goal

abbrev first : ProtocolName
first = record { proto = record { rank = 0 }; name = record { rank = 0 } }

pub loop-d-preserved : goal.loop-d-preserved
loop-d-preserved c =
    let inherits = inherits_by c.args.protocols.now.places c.args.protocols.now.resolved.inherits in
    let d = get_or c.args.pairs.now c.loop-d.d-index first in
    let flag : c.inherits_name-inherited.result ≡ inherits_name inherits c.args.pairs.now d.proto d.name =
    c.inherits_name-inherited.ensures ∙ any_declarer c.args.pairs.now c.args.lists.now c.requires (inherits d.proto) d.name in
    mapped_more (key inherits c.args.pairs.now) c.args.pairs.now c.loop-d.d-index d c.of.result c.loop-d.keys.items
    c.push.new.self.items c.loop-d-test.true
    (get_or_default c.args.pairs.now c.loop-d.d-index first d c.loop-d-test.true) c.in_ok-push.ensures.items
    (c.of.ensures ∙ (λ k. record { name = d.name; inherited = flag k; proto = d.proto })) c.loop-d.invariant
