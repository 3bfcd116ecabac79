use Rattle.swreq_rule.proofs.Context.{Step-before, Step-after}
use Rattle.swreq_rule.proofs.laws.steps_stay_in_context.Goals as goal

pub returns : goal.returns
returns c = λ before u v after s. Step-before before (Step-after after s)
