use Rattle.swreq_canonical.proofs.Ordered.{alone, canonical_total, one_list, requirements_founded, strict_requirements, transitive_requirements}
use Rattle.swreq_canonical.proofs.Sorting.{some_sorted}
use Rattle.swreq_canonical.proofs.laws.canonical_requirements_are_ordered.Goals as goal

pub returns-clause-strict : goal.returns-clause-strict
returns-clause-strict c = strict_requirements

pub returns-clause-transitive : goal.returns-clause-transitive
returns-clause-transitive c = transitive_requirements

pub returns-clause-well_founded : goal.returns-clause-well_founded
returns-clause-well_founded c = requirements_founded

pub returns-clause-total : goal.returns-clause-total
returns-clause-total c = canonical_total

pub returns-clause-alone : goal.returns-clause-alone
returns-clause-alone c = alone

pub returns-clause-one_list : goal.returns-clause-one_list
returns-clause-one_list c = one_list

pub returns-clause-sorted : goal.returns-clause-sorted
returns-clause-sorted c = some_sorted
