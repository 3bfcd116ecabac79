use Rattle.std.proofs.Common.{◌≡◌, map, take}
use Rattle.swreq_names.specs.Spaces.{declarations}
use Rattle.swreq_names.proofs.kinds.nested.Given as goal

abbrev pub invariant-loop-item : goal.invariant-loop-item
invariant-loop-item l = l.found.items ≡ map (λ t. declarations l.text (map (λ f. f.name) t.functions)) (take l.item-index l.structs)
