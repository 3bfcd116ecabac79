use Rattle.swreq_complete.proofs.Short.{borne_is_within}
use Rattle.swreq_complete.proofs.laws.borne_is_within.Goals as goal

pub returns : goal.returns
returns c = borne_is_within c.args.limits c.args.base c.args.given.now c.args.trace.now
