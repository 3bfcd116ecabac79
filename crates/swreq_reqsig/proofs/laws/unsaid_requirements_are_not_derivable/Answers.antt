use Rattle.swreq_reqsig.proofs.Unsaid.{unsaid_not_derivable}
use Rattle.swreq_reqsig.proofs.laws.unsaid_requirements_are_not_derivable.Goals as goal

pub returns : goal.returns
returns c x family p r is e = unsaid_not_derivable x family p r is e
