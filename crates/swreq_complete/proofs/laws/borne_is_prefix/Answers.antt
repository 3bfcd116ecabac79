use Rattle.swreq_complete.proofs.Short.{borne_is_prefix}
use Rattle.swreq_complete.proofs.laws.borne_is_prefix.Goals as goal

pub returns : goal.returns
returns c = borne_is_prefix c.args.limits c.args.base.now c.args.given.now c.args.part.now c.args.whole.now
