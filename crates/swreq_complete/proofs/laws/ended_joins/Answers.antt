use Rattle.swreq_complete.proofs.Joining.{joins}
use Rattle.swreq_complete.proofs.laws.ended_joins.Goals as goal

pub returns : goal.returns
returns c = joins c.args.base c.args.equations.now c.args.given.now c.args.trace.now
