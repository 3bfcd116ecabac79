use Rattle.swreq_reqsig.proofs.ByReach.{conforms_by_reach}
use Rattle.swreq_reqsig.proofs.laws.conformances_are_to_reached_protocols.Goals as goal

pub returns : goal.returns
returns c ds family p q t e = conforms_by_reach ds family p q t e
