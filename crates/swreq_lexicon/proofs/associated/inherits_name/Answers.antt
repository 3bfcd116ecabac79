use Rattle.std.proofs.Common.{◌∙◌, get_or, [], sym}
use Rattle.swreq_lexicon.specs.Views.{inherits_by}
use Rattle.swreq_lexicon.proofs.Declarers.{none_passes}
use Rattle.swreq_lexicon.proofs.associated.inherits_name.Goals as goal

pub returns-else-may_inherit : goal.returns-else-may_inherit
returns-else-may_inherit c =
    c.if-may_inherit.false
    ∙ sym (none_passes (inherits_by c.args.protocols.now.places c.args.protocols.now.resolved.inherits c.args.protocol)
    (c.may_inherit.ensures c.if-may_inherit.false)
    (get_or c.args.lists.now c.args.name.rank []))
