use Rattle.std.proofs.Common.{◌≡◌, ◌++◌}
use Rattle.swreq_valid.proofs.Planning.{left_from}
use Rattle.swreq_valid.proofs.completing.given_by.Given as goal

abbrev pub invariant-loop-k : goal.invariant-loop-k
invariant-loop-k l =
    l.v.items ++ left_from l.text.world.now l.text.table.now l.start l.used l.k ≡ l.start.basic.items ++ left_from l.text.world.now
    l.text.table.now l.start l.used 0
