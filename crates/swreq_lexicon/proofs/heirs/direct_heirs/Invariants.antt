use Rattle.std.proofs.Common.{◌≡◌, length}
use Rattle.swreq_lexicon.specs.Heirs.{AreDirectHeirs}
use Rattle.swreq_lexicon.proofs.heirs.direct_heirs.Given as goal

abbrev pub invariant-loop-k : goal.invariant-loop-k
invariant-loop-k l = record {
  size : length l.lists ≡ length l.order;
  are : AreDirectHeirs l.order l.protocols.places l.positions l.direct l.k l.lists;
}
