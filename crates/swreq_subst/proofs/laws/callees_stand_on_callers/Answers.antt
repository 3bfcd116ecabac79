use Rattle.swreq_subst.proofs.Uses.{carried}
use Rattle.swreq_subst.proofs.laws.callees_stand_on_callers.Goals as goal

pub returns : goal.returns
returns c = carried
