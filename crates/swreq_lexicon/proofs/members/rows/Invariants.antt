use Rattle.std.proofs.Common.{◌≡◌, length, take}
use Rattle.swreq_lexicon.specs.Symbols.{has_member, AreRows}
use Rattle.swreq_lexicon.specs.Views.{inherits_by}
use Rattle.swreq_lexicon.proofs.members.rows.Given as goal

abbrev pub invariant-loop-d : goal.invariant-loop-d
invariant-loop-d l = record {
  size : length l.rows.items ≡ l.names;
  said : AreRows l.ordered
      (has_member (inherits_by l.protocols.places l.protocols.resolved.inherits) (take l.d-index l.pairs)) l.rows.items;
}
