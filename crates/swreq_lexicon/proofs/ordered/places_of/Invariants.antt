use Rattle.std.proofs.Common.{◌≡◌, length}
use Rattle.swreq_lexicon.proofs.Rows.{ArePlacesTo}
use Rattle.swreq_lexicon.proofs.ordered.places_of.Given as goal

abbrev pub invariant-loop-k : goal.invariant-loop-k
invariant-loop-k l = record {
  size : length l.places.items ≡ l.bound;
  placed : ArePlacesTo l.protos l.k l.places.items;
}
