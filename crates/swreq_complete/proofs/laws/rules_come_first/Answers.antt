use Rattle.swreq_complete.proofs.Replaying.{rules_come_first}
use Rattle.swreq_complete.proofs.laws.rules_come_first.Goals as goal

pub returns : goal.returns
returns c = rules_come_first c.args.limits c.args.base c.args.given.now c.args.trace.now
