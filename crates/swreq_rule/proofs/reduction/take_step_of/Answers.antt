use Rattle.std.proofs.Common.{ℕ, List, arith, ◌+◌, ◌∙◌, ap, length, take, drop, ◌++◌}
use Rattle.swreq_rule.specs.declared.rules.Rule.{Rule}
use Rattle.swreq_rule.specs.Reduction.{FirstRedex, ReductionStep}
use Rattle.swreq_rule.specs.Steps.{RuleAt}
use Rattle.swreq_word.proofs.Comparing.{less_no_longer}
use Rattle.swreq_rule.proofs.Downward.{step_down}
use Rattle.swreq_rule.proofs.Search.{a_step}
use Rattle.swreq_rule.proofs.Places.{first_step_is, redex_within}
use Rattle.swreq_rule.proofs.reduction.take_step_of.Goals as goal
use Rattle.swreq_rule.proofs.reduction.take_step_of.Goals.{After-replace}

pub replace-requires-clause-within : goal.replace-requires-clause-within
replace-requires-clause-within c =
    let p = c.requires in
    let h = redex_within p.rules c.args.w.now.items c.args.at p.number c.args.rule.now p.redex p.is_rule in
    omega (arith, h, ap length c.symbols.ensures, c.args.w.now.ok.0)

step : (c : After-replace) (rules : List Rule) (number : ℕ) → RuleAt rules number c.args.rule.now
    → FirstRedex rules c.args.w.now.items c.args.at number
    → ReductionStep rules c.args.w.now.items c.replace.new.w.items
step c rules number is redex =
    first_step_is rules c.args.w.now.items c.replace.new.w.items c.args.at number (length c.symbols.result.now) c.args.rule.now redex is
    (ap length c.symbols.ensures)
    (c.replace.ensures.items ∙ ap (λ r.
    take c.args.at c.args.w.now.items ++ (r ++ drop (c.args.at + length c.symbols.result.now) c.args.w.now.items)) c.symbols-2.ensures)

pub returns-clause-step : goal.returns-clause-step
returns-clause-step c = step c

pub returns-clause-no_longer : goal.returns-clause-no_longer
returns-clause-no_longer c =
    let p = c.requires in
    let h = less_no_longer c.replace.new.w.items c.args.w.now.items
    (step_down p.rules _ _ (a_step p.rules _ _ (step c p.rules p.number p.is_rule p.redex))) in
    omega (arith, h, c.replace.new.w.ok.0, c.args.w.now.ok.0)
