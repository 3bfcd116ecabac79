use Rattle.std.proofs.Common.{◌≡◌, ◌-◌, ◌≤◌, ◌++◌}
use Rattle.swreq_lowering.specs.Signatures.{nested_from}
use Rattle.swreq_world.proofs.merging.add_nested.Given as goal

abbrev pub invariant-loop-function : goal.invariant-loop-function
invariant-loop-function l = record {
  within : l.function ≤ l.count;
  added : l.order.items ≡ l.fn.order.items ++ nested_from l.outer 0 l.function;
}

abbrev pub decreases-loop-function : goal.decreases-loop-function
decreases-loop-function l = l.count - l.function
