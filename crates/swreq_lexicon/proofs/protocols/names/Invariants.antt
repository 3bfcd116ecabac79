use Rattle.std.proofs.Common.{◌≡◌, take}
use Rattle.swreq_lexicon.specs.Texts.{protocol_names}
use Rattle.swreq_lexicon.proofs.protocols.names.Given as goal

abbrev pub invariant-loop-p : goal.invariant-loop-p
invariant-loop-p l = l.names.items ≡ protocol_names l.text (take l.p-index l.protocols)
