use Rattle.swreq_verify.proofs.Judged.{ok_derivable}
use Rattle.swreq_verify.proofs.laws.ok_says_derivable.Goals as goal

pub returns : goal.returns
returns c = ok_derivable
