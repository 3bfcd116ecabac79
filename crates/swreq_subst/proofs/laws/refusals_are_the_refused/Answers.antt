use Rattle.swreq_subst.proofs.Refused.{all_refused}
use Rattle.swreq_subst.proofs.laws.refusals_are_the_refused.Goals as goal

pub returns : goal.returns
returns c = all_refused
