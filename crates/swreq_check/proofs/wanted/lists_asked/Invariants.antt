use Rattle.std.proofs.Common.{length, take}
use Rattle.swreq_check.specs.Wanted.{AreFlags, is_list_asked}
use Rattle.swreq_check.proofs.wanted.lists_asked.Given as goal

abbrev pub invariant-loop-k : goal.invariant-loop-k
invariant-loop-k l = AreFlags (is_list_asked (take l.k l.text.world.now.queries)) (length l.text.world.now.signatures) l.flags.items
