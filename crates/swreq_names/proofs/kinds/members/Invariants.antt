use Rattle.std.proofs.Common.{◌≡◌, map, take}
use Rattle.swreq_names.specs.Spaces.{declarations}
use Rattle.swreq_names.proofs.kinds.members.Given as goal

abbrev pub invariant-loop-protocol : goal.invariant-loop-protocol
invariant-loop-protocol l = l.found.items ≡ map (λ p. declarations l.text (map (λ m. m.name) p.members)) (take l.protocol-index l.protocols)
