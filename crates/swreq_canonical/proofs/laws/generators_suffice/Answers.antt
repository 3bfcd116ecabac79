use Rattle.swreq_canonical.proofs.Covering.{generators_derive, one_generator_list}
use Rattle.swreq_canonical.proofs.laws.generators_suffice.Goals as goal

pub returns-clause-one : goal.returns-clause-one
returns-clause-one c = one_generator_list

pub returns-clause-same : goal.returns-clause-same
returns-clause-same c = generators_derive
