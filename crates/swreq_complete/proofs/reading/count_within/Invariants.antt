use Rattle.std.proofs.Common.{◌≤◌, length}
use Rattle.swreq_complete.proofs.reading.count_within.Given as goal

abbrev pub invariant-back : goal.invariant-back
invariant-back l = l.kept ≤ length l.counts

abbrev pub decreases-back : goal.decreases-back
decreases-back l = l.kept
