use Rattle.swreq_reqsig.proofs.ByReach.{flags_give_part}
use Rattle.swreq_reqsig.proofs.laws.reached_flags_give_the_part.Goals as goal

pub returns : goal.returns
returns c all flags part p are = flags_give_part all flags part p are
