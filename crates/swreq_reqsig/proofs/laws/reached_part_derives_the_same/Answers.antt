use Rattle.swreq_reqsig.proofs.ByReach.{derives_by_reach}
use Rattle.swreq_reqsig.proofs.laws.reached_part_derives_the_same.Goals as goal

pub returns : goal.returns
returns c ds family part p is st = derives_by_reach ds family part p is st
