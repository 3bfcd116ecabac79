use Rattle.swreq_canonical.proofs.Sufficing.{suffice}
use Rattle.swreq_canonical.proofs.laws.canonical_requirements_suffice.Goals as goal

pub returns : goal.returns
returns c = suffice
