use Rattle.std.proofs.Common.{subst, refl}
use Rattle.swreq_rule.specs.swreq_word.Relations.{IsIrreducible}
use Rattle.swreq_rule.specs.Reduction.{FirstRedex}
use Rattle.swreq_rule.specs.Steps.{Step}
use Rattle.swreq_rule.proofs.Resuming.{steps_past}
use Rattle.swreq_complete.proofs.Indexing.{rule_of_redex}
use Rattle.swreq_complete.proofs.reducing.reduce_once.Goals as goal

pub take_step_of-requires : goal.take_step_of-requires
take_step_of-requires c =
    let rules = c.args.rules.now in let w = c.args.word.now.items in let redex = c.in_ok-redex.redex in
    let first = subst (λ u. FirstRedex rules u redex.at redex.number) c.deref.ensures.value c.in_ok-redex.ensures in
    record {
      rules = rules;
      number = redex.number;
      is_rule = rule_of_redex rules w redex.at redex.number c.rule.result.now first c.rule.ensures;
      redex = first;
    }

pub returns-in_err-redex-clause-step : goal.returns-in_err-redex-clause-step
returns-in_err-redex-clause-step c =
    rw c.from_residual.ensures (refl, subst (IsIrreducible (Step c.args.rules.now)) c.deref.ensures.value c.in_err-redex.ensures)

pub returns-clause-step : goal.returns-clause-step
returns-clause-step c =
    let rules = c.args.rules.now in let w = c.args.word.now.items in let redex = c.in_ok-redex.redex in
    let first = subst (λ u. FirstRedex rules u redex.at redex.number) c.deref.ensures.value c.in_ok-redex.ensures in
    rw c.saturating_sub.ensures
    (steps_past rules w c.take_step_of.new.w.items redex.at redex.number c.args.longest first
    (c.take_step_of.ensures.step rules redex.number
    (rule_of_redex rules w redex.at redex.number c.rule.result.now first c.rule.ensures) first)
    c.requires.no_left_longer)
