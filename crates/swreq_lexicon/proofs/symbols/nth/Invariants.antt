use Rattle.std.proofs.Common.{◌≡◌, ◌+◌, length, take}
use Rattle.swreq_lexicon.specs.Symbols.{has_member, having}
use Rattle.swreq_lexicon.specs.Views.{inherits_by}
use Rattle.swreq_lexicon.proofs.symbols.nth.Given as goal

abbrev pub invariant-loop-q : goal.invariant-loop-q
invariant-loop-q l = l.left + length (having (take l.q-index l.ordered)
    (has_member (inherits_by l.protocols.places l.protocols.resolved.inherits) l.associated) l.name) ≡ l.place
