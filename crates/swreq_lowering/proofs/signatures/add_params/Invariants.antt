use Rattle.std.proofs.Common.{◌≤◌, ◌-◌, length, take}
use Rattle.swreq_lowering.specs.Adding.{Adds}
use Rattle.swreq_lowering.specs.Walk.{in_params}
use Rattle.swreq_lowering.specs.Words.{words_by}
use Rattle.swreq_lowering.proofs.signatures.add_params.Given as goal

abbrev pub invariant-loop-i : goal.invariant-loop-i
invariant-loop-i l = record {
  within : l.i ≤ length l.params;
  added : Adds l.fn.table l.table l.fn.into.items l.into.items (in_params (words_by l.words) l.signature 0 (take l.i l.params));
}

abbrev pub decreases-loop-i : goal.decreases-loop-i
decreases-loop-i l = length l.params - l.i
