use Rattle.std.proofs.Common.{◌≡◌, map, take}
use Rattle.swreq_names.specs.Spaces.{of_params}
use Rattle.swreq_names.proofs.kinds.params.Given as goal

abbrev pub invariant-loop-function : goal.invariant-loop-function
invariant-loop-function l = l.found.items ≡ map (λ f. of_params l.text f.params) (take l.function-index l.functions)
