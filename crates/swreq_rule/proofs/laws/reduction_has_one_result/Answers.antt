use Rattle.swreq_rule.proofs.Remaining.{one_result}
use Rattle.swreq_rule.proofs.laws.reduction_has_one_result.Goals as goal

pub returns : goal.returns
returns c = one_result c.args.rules.now
