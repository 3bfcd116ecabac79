use Rattle.swreq_canonical.proofs.Agreement.{same_by_minimised, same_canonical, same_generators, same_minimised}
use Rattle.swreq_canonical.proofs.laws.equivalent_lists_agree.Goals as goal

pub returns-clause-canonical : goal.returns-clause-canonical
returns-clause-canonical c = same_canonical

pub returns-clause-generators : goal.returns-clause-generators
returns-clause-generators c = same_generators

pub returns-clause-minimised : goal.returns-clause-minimised
returns-clause-minimised c = same_minimised

pub returns-clause-converse : goal.returns-clause-converse
returns-clause-converse c = same_by_minimised
