use Rattle.std.proofs.Common.{◌≡◌, length, take}
use Rattle.swreq_lexicon.proofs.Upwards.{AreAdded}
use Rattle.swreq_lexicon.proofs.heirs.add_heir.Given as goal

abbrev pub invariant-loop-base : goal.invariant-loop-base
invariant-loop-base l = record {
  size : length l.lists ≡ length l.initial.lists;
  added : AreAdded l.positions (take l.base-index l.bases) l.heir l.initial.lists l.lists;
}
