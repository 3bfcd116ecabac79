use Rattle.std.proofs.Common.{◌≡◌, map, take}
use Rattle.swreq_lexicon.specs.Keys.{key}
use Rattle.swreq_lexicon.specs.Views.{inherits_by}
use Rattle.swreq_lexicon.proofs.associated.keys.Given as goal

abbrev pub invariant-loop-d : goal.invariant-loop-d
invariant-loop-d l =
    l.keys.items ≡ map (key (inherits_by l.protocols.places l.protocols.resolved.inherits) l.pairs) (take l.d-index l.pairs)
