use Rattle.swreq_complete.proofs.Short.{borne_is_one}
use Rattle.swreq_complete.proofs.laws.borne_is_one.Goals as goal

pub returns : goal.returns
returns c = borne_is_one c.args.limits c.args.base.now c.args.given.now
