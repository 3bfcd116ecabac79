use Rattle.std.proofs.Common.{◌≡◌, take}
use Rattle.swreq_lexicon.specs.Texts.{declared_in}
use Rattle.swreq_lexicon.proofs.lexicon.declared_in.Given as goal

abbrev pub invariant-loop-p : goal.invariant-loop-p
invariant-loop-p l = l.pairs.items ≡ declared_in l.text l.protocols.protocols l.names (take l.p-index l.written)
