use Rattle.std.proofs.Common.{◌≡◌, take}
use Rattle.swreq_valid.proofs.turns.copied.Given as goal

abbrev pub invariant-loop-rule : goal.invariant-loop-rule
invariant-loop-rule l = l.copies.items ≡ take l.rule-index l.trace
