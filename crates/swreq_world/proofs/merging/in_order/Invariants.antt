use Rattle.std.proofs.Common.{◌≡◌, ◌-◌, ◌≤◌, ◌++◌, length, drop}
use Rattle.swreq_lowering.specs.Signatures.{merged_from}
use Rattle.swreq_world.proofs.merging.in_order.Given as goal

abbrev pub invariant-loop-i : goal.invariant-loop-i
invariant-loop-i l = record {
  within : l.i ≤ length l.structs;
  before : l.at ≤ length l.functions;
  merged : l.order.items ++ merged_from l.i (drop l.i l.structs) l.at (drop l.at l.functions) ≡ merged_from 0 l.structs 0 l.functions;
}

abbrev pub decreases-loop-i : goal.decreases-loop-i
decreases-loop-i l = length l.structs - l.i
