use Rattle.std.proofs.Common.{◌≡◌, length}
use Rattle.swreq_lexicon.specs.Keys.{order_keys}
use Rattle.swreq_lexicon.specs.Views.{inherits_by}
use Rattle.swreq_lexicon.proofs.symbols.keys.Given as goal

abbrev pub invariant-loop-rank : goal.invariant-loop-rank
invariant-loop-rank l =
    l.keys.items ≡ order_keys (inherits_by l.protocols.places l.protocols.resolved.inherits) (length l.protocols.protocols) l.rank
