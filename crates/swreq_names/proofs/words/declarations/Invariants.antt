use Rattle.std.proofs.Common.{◌≡◌, map, take}
use Rattle.swreq_names.specs.Spaces.{declaration}
use Rattle.swreq_names.proofs.words.declarations.Given as goal

abbrev pub invariant-loop-item : goal.invariant-loop-item
invariant-loop-item g l = l.found.items ≡ map (λ x. declaration l.text (g.T.Named.name_of x)) (take l.item-index l.items)
