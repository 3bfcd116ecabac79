use Rattle.std.proofs.Common.{◌<◌, List, Contains, sym, subst}
use Rattle.swreq_derive.specs.swreq_param.declared.ids.ProtoId.{ProtoId}
use Rattle.swreq_lexicon.proofs.ordered.Ordered.of.Goals as goal

pub places_of-requires-clause-within : goal.places_of-requires-clause-within
places_of-requires-clause-within c =
    subst (λ (ps : List ProtoId). (p : ProtoId) → Contains ps p → p.rank < c.args.bound) (sym c.deref.ensures.value) c.requires.within
