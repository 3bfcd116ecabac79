use Rattle.swreq_canonical.proofs.Dropping.{independent, left_sorted, one_left, same_left, without_one}
use Rattle.swreq_canonical.proofs.laws.dropping_keeps.Goals as goal

pub returns-clause-in_any_order : goal.returns-clause-in_any_order
returns-clause-in_any_order c f params before after r d = without_one f params before after r d

pub returns-clause-same : goal.returns-clause-same
returns-clause-same c f params all left l = same_left f params l

pub returns-clause-independent : goal.returns-clause-independent
returns-clause-independent c f params all left l = independent f params l

pub returns-clause-sorted : goal.returns-clause-sorted
returns-clause-sorted c f params all left l = left_sorted f params l

pub returns-clause-one : goal.returns-clause-one
returns-clause-one c f params all left other l k = one_left f params l k
