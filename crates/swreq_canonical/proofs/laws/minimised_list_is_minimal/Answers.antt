use Rattle.swreq_canonical.proofs.Agreement.{minimised_canonical, minimised_independent, minimised_same, minimised_sorted, some_minimised}
use Rattle.swreq_canonical.proofs.laws.minimised_list_is_minimal.Goals as goal

pub returns-clause-canonical : goal.returns-clause-canonical
returns-clause-canonical c = minimised_canonical

pub returns-clause-sorted : goal.returns-clause-sorted
returns-clause-sorted c = minimised_sorted

pub returns-clause-independent : goal.returns-clause-independent
returns-clause-independent c = minimised_independent

pub returns-clause-same : goal.returns-clause-same
returns-clause-same c = minimised_same

pub returns-clause-some : goal.returns-clause-some
returns-clause-some c = some_minimised
