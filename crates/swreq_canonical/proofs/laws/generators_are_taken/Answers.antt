use Rattle.swreq_canonical.proofs.Taking.{generator_list, generators_told, some_generators}
use Rattle.swreq_canonical.proofs.laws.generators_are_taken.Goals as goal

pub returns-clause-taken : goal.returns-clause-taken
returns-clause-taken c = generator_list

pub returns-clause-told : goal.returns-clause-told
returns-clause-told c = generators_told

pub returns-clause-some : goal.returns-clause-some
returns-clause-some c = some_generators
