use Rattle.std.proofs.Common.{◌≡◌, ◌++◌}
use Rattle.swreq_rank.proofs.lists.Lists.into_seqs.Given as goal

abbrev pub invariant-loop-list : goal.invariant-loop-list
invariant-loop-list g l = l.seqs.items ++ l.list-iterator.rest.items ≡ l.fn.self
