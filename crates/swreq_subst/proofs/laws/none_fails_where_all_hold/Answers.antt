use Rattle.swreq_subst.proofs.Uses.{none_fails}
use Rattle.swreq_subst.proofs.laws.none_fails_where_all_hold.Goals as goal

pub returns : goal.returns
returns c = none_fails
