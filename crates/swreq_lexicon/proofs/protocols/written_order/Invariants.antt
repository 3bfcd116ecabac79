use Rattle.std.proofs.Common.{◌≡◌, take, map}
use Rattle.swreq_names.specs.Spaces.{word}
use Rattle.swreq_lexicon.specs.Lexicons.{proto_by}
use Rattle.swreq_lexicon.proofs.protocols.written_order.Given as goal

abbrev pub invariant-loop-p : goal.invariant-loop-p
invariant-loop-p l = l.order.items ≡ map (λ p. proto_by l.ranks (word l.text p.name)) (take l.p-index l.protocols)
