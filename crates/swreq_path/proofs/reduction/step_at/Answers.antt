use Rattle.std.proofs.lemmas.Result.{IfOk-weaker}
use Rattle.swreq_rule.proofs.Numbers.{rule_there}
use Rattle.swreq_path.proofs.Reducing.{redex_there}
use Rattle.swreq_path.proofs.reduction.step_at.Goals as goal

pub step_of-requires-clause-there : goal.step_of-requires-clause-there
step_of-requires-clause-there c =
    let rules = c.args.rules.now in let number = c.args.redex.number in let redex = c.requires.redex in
    redex_there rules c.args.w.now c.args.redex.at number c.index-rules-redex.result redex
    (rule_there rules number redex.0 c.index-rules-redex.result redex.1 c.index-rules-redex.is)

pub returns : goal.returns
returns c =
    let rules = c.args.rules.now in let number = c.args.redex.number in let redex = c.requires.redex in
    IfOk-weaker c.step_of.result _ _
    (λ step steps. steps rules (rule_there rules number redex.0 c.index-rules-redex.result redex.1 c.index-rules-redex.is))
    c.step_of.ensures
