use Rattle.swreq_derive.proofs.TwoDepths.{two_depths}
use Rattle.swreq_derive.proofs.laws.generic_parameters_have_two_depths.Goals as goal

pub returns : goal.returns
returns c = two_depths
