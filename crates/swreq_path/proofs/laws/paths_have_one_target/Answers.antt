use Rattle.swreq_path.proofs.Leading.{one_end}
use Rattle.swreq_path.proofs.laws.paths_have_one_target.Goals as goal

pub returns : goal.returns
returns c path v w = one_end c.args.rules.now path.steps path.start v w
