use Rattle.std.proofs.Common.{arith, sym, ◌∙◌, subst}
use Rattle.swreq_rule.specs.swreq_word.Relations.{IsIrreducible}
use Rattle.swreq_rule.specs.Reduction.{FirstRedex}
use Rattle.swreq_rule.specs.Steps.{Step}
use Rattle.swreq_path.specs.Reductions.{StepsReduce}
use Rattle.swreq_path.proofs.Reducing.{left_falls, reduce_more}
use Rattle.swreq_complete.proofs.Indexing.{rule_of_redex}
use Rattle.swreq_complete.proofs.paths.reduction_path.Goals as goal

pub first_redex-requires : goal.first_redex-requires
first_redex-requires c = record { earlier = λ before rest e l. absurd (omega (arith, l)) }

pub take_redex_of-requires-clause-redex : goal.take_redex_of-requires-clause-redex
take_redex_of-requires-clause-redex c =
    let rules = c.args.rules.now in let w = c.steps.reached.items in let redex = c.in-Some.redex in
    let first = subst (λ u. FirstRedex rules u redex.at redex.number) c.deref.ensures.value c.in-Some.ensures in
    record {
      rules = rules;
      number = redex.number;
      is_rule = rule_of_redex rules w redex.at redex.number c.rule-rule.result.now first c.rule-rule.ensures;
      redex = first;
    }

pub steps-smaller : goal.steps-smaller
steps-smaller c =
    let rules = c.args.rules.now in let w = c.steps.reached.items in let redex = c.in-Some.redex in
    let first = subst (λ u. FirstRedex rules u redex.at redex.number) c.deref.ensures.value c.in-Some.ensures in
    left_falls _ _ _ _ _ (c.in_ok-take_redex_of.ensures.ok rules
    (rule_of_redex rules w redex.at redex.number c.rule-rule.result.now first c.rule-rule.ensures) first)

pub steps-preserved : goal.steps-preserved
steps-preserved c =
    let rules = c.args.rules.now in let w = c.steps.reached.items in let redex = c.in-Some.redex in
    let first = subst (λ u. FirstRedex rules u redex.at redex.number) c.deref.ensures.value c.in-Some.ensures in
    reduce_more _ _ _ _ _ _ c.steps.invariant
    (c.in_ok-take_redex_of.ensures.ok rules
    (rule_of_redex rules w redex.at redex.number c.rule-rule.result.now first c.rule-rule.ensures) first)

pub returns : goal.returns
returns c =
    let rules = c.args.rules.now in
    let v = c.steps.reached.items in (
      v,
      record {
        start = c.new-start.ensures ∙ c.in_ok-from_slice.ensures.items;
        steps = subst (λ xs. StepsReduce rules xs c.args.word.now v) (sym c.new.ensures) c.steps.invariant;
        irreducible = subst (λ u. IsIrreducible (Step rules) u) c.deref.ensures.value c.in_default.ensures;
      },
    )
