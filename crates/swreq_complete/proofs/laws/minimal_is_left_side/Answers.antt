use Rattle.swreq_pair.proofs.CriticalPairs.{locally}
use Rattle.swreq_complete.proofs.ReducedSystem.{minimal_there}
use Rattle.swreq_complete.proofs.laws.minimal_is_left_side.Goals as goal

pub returns : goal.returns
returns c complete = minimal_there c.args.rules.now (locally c.args.rules.now complete.meet)
