use Rattle.std.proofs.Common.{◌≡◌, [], replicate}
use Rattle.swreq_rank.proofs.lists.Lists.new.Given as goal

abbrev pub invariant-loop : goal.invariant-loop
invariant-loop g l = l.lists.items ≡ replicate l.counter []
