use Rattle.std.proofs.Common.{◌∙◌, ◌||◌, nat_eq, map, ap}
use Rattle.swreq_derive.specs.swreq_param.declared.ids.ProtoId.{ProtoId}
use Rattle.swreq_lexicon.specs.Keys.{pair_of}
use Rattle.swreq_lexicon.specs.Symbols.{has_member}
use Rattle.swreq_lexicon.specs.Views.{inherits_by}
use Rattle.swreq_lexicon.proofs.Declarers.{any_declarer}
use Rattle.swreq_lexicon.proofs.associated.Associated.has_member.Goals as goal

pub returns : goal.returns
returns c =
    let inherits = inherits_by c.args.protocols.now.places c.args.protocols.now.resolved.inherits in
    let test = λ (q : ProtoId). nat_eq c.args.protocol.rank q.rank || inherits c.args.protocol q in
    c.has_name.ensures
    ∙ any_declarer (map pair_of c.self.inside.ranked) c.self.inside.declarers c.self.invariant.0 test c.args.name
    ∙ ap (λ ds. has_member inherits ds c.args.protocol c.args.name) c.self.view_is
