use Rattle.std.proofs.Common.{◌≡◌, length}
use Rattle.swreq_lexicon.specs.Heirs.{ArePositions, HavePositions}
use Rattle.swreq_lexicon.proofs.heirs.positions.Given as goal

abbrev pub invariant-loop-k : goal.invariant-loop-k
invariant-loop-k l = record {
  size : length l.positions.items ≡ l.bound;
  are : ArePositions l.order l.protocols.places l.positions.items;
  all : HavePositions l.order l.protocols.places l.positions.items l.k;
}
