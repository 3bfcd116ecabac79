use Rattle.swreq_subst.proofs.OneCall.{one_list}
use Rattle.swreq_subst.proofs.laws.one_list_of_calls.Goals as goal

pub returns : goal.returns
returns c w text ids = one_list w text ids.signatures
