use Rattle.std.proofs.Common.{◌≡◌, map, take}
use Rattle.swreq_names.specs.Walk.{walked_direct}
use Rattle.swreq_names.proofs.inheritance.inheritance.Given as goal

abbrev pub invariant-loop-p : goal.invariant-loop-p
invariant-loop-p l = l.steps.items ≡ map (walked_direct l.text l.d) (take l.p-index l.protocols)
