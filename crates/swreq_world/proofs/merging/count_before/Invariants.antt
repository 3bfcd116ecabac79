use Rattle.std.proofs.Common.{◌≡◌, ◌+◌, ◌-◌, ◌≤◌, length, drop}
use Rattle.std.specs.List.{prefix_len}
use Rattle.swreq_lexicon.specs.swreq_decl.Signatures.{stands_before}
use Rattle.swreq_world.proofs.merging.count_before.Given as goal

abbrev pub invariant-loop-at : goal.invariant-loop-at
invariant-loop-at l = record {
  above : l.from ≤ l.at;
  within : l.at ≤ length l.functions;
  counted : (l.at - l.from) + prefix_len (stands_before l.item) (drop l.at l.functions)
      ≡ prefix_len (stands_before l.item) (drop l.from l.functions);
}

abbrev pub decreases-loop-at : goal.decreases-loop-at
decreases-loop-at l = length l.functions - l.at
