use Rattle.swreq_subst.proofs.Uses.{one_line}
use Rattle.swreq_subst.proofs.laws.one_line.Goals as goal

pub returns : goal.returns
returns c = one_line
