use Rattle.std.proofs.Common.{◌≡◌, length, take}
use Rattle.swreq_lexicon.specs.Symbols.{AreDeclarers}
use Rattle.swreq_lexicon.proofs.associated.declarers_of.Given as goal

abbrev pub invariant-loop-d : goal.invariant-loop-d
invariant-loop-d l = record {
  len : length l.lists ≡ l.names;
  declared : AreDeclarers (take l.d-index l.pairs) l.lists;
}
