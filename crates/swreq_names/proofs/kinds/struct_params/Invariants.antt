use Rattle.std.proofs.Common.{◌≡◌, map, take}
use Rattle.swreq_names.specs.Spaces.{of_params}
use Rattle.swreq_names.proofs.kinds.struct_params.Given as goal

abbrev pub invariant-loop-item : goal.invariant-loop-item
invariant-loop-item l = l.found.items ≡ map (λ t. of_params l.text t.params) (take l.item-index l.structs)
