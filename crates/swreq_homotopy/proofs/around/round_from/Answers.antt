use Rattle.std.proofs.Common.{◌≡◌, ◌-◌, ◌<◌, ℕ, List, Some, false, get_or, refl, slice_get, sym, true, ◌∙◌, ap, subst, subst₂, arith, length}
use Rattle.std.proofs.lemmas.Option.{slice_get_within}
use Rattle.swreq_rule.specs.swreq_word.declared.symbols.Symbol.{Symbol}
use Rattle.swreq_rule.specs.declared.rules.Rule.{Rule}
use Rattle.swreq_rule.specs.Steps.{RuleAt}
use Rattle.swreq_rule.proofs.Numbers.{number_some, number_within, rule_there}
use Rattle.swreq_path.specs.declared.paths.Loop.{Loop}
use Rattle.swreq_path.specs.declared.paths.Path.{Path}
use Rattle.swreq_path.specs.declared.steps.RewriteStep.{RewriteStep}
use Rattle.swreq_path.specs.Paths.{IsLoop, StepsLead, HasTarget}
use Rattle.swreq_path.specs.Inverse.{inverse}
use Rattle.swreq_path.proofs.Leading.{one_end}
use Rattle.swreq_homotopy.specs.Search.{GoesRound, IsBareAt, rest_of, way_round}
use Rattle.swreq_homotopy.proofs.RoundTrip.{LeadsRound, step_read, leads_round, forward_leads, backward_leads}
use Rattle.swreq_homotopy.proofs.around.round_from.Goals as goal

-- the step at the place, by what is read there
module _ (rules : List Rule) (round : Loop) (given : List RewriteStep) (at : ℕ) (step : RewriteStep) (over : IsLoop rules round)
    (bare : IsBareAt round.path.steps at) (same : given ≡ round.path.steps) (is : step ≡ get_or given at step) where
  read : slice_get round.path.steps at ≡ Some step
  read = step_read round given at step bare same is

  leads : LeadsRound rules round.path.steps at step
  leads = leads_round rules round at step over bare read

  -- and the rule that it names, and the rest of the steps
  module _ (rule : Rule) (there : rule ≡ get_or rules (step.rule - 1) rule) (others : List RewriteStep) (rest : others ≡ rest_of given at)
    where
      named : RuleAt rules step.rule rule
      named = rule_there rules step.rule leads.rule rule leads.is_rule there

      rest_is : others ≡ rest_of round.path.steps at
      rest_is = rest ∙ ap (λ xs. rest_of xs at) same

      leads_back : (u : List Symbol) → step.forward ≡ true → u ≡ rule.right → StepsLead rules others u rule.left
      leads_back u forward e =
          subst₂ (λ xs v. StepsLead rules xs v rule.left) (sym rest_is) (sym e)
          (forward_leads rules round.path.steps at step rule forward named leads)

      goes_back : (u : List Symbol) (path : Path) → step.forward ≡ true → u ≡ rule.right → StepsLead rules others u path.start
          → HasTarget rules path u → path.steps ≡ inverse others
          → GoesRound rules round.path.steps at (record { rule = step.rule; path = path })
      goes_back u path forward e start target steps = record {
        step = step;
        is_step = read;
        rule = rule;
        is_rule = named;
        names = refl;
        start = one_end rules others u path.start rule.left start (leads_back u forward e);
        target = subst (HasTarget rules path) e target;
        steps_are = steps ∙ ap inverse rest_is ∙ ap (λ b. way_round b round.path.steps at) (sym forward);
      }

      goes_on : (u : List Symbol) → step.forward ≡ false → u ≡ rule.left
          → GoesRound rules round.path.steps at (record { rule = step.rule; path = record { start = u; steps = others } })
      goes_on u backward e = record {
        step = step;
        is_step = read;
        rule = rule;
        is_rule = named;
        names = refl;
        start = e;
        target = subst₂ (λ xs v. StepsLead rules xs v rule.right) (sym rest_is) (sym e)
            (backward_leads rules round.path.steps at step rule backward named leads);
        steps_are = rest_is ∙ ap (λ b. way_round b round.path.steps at) (sym backward);
      }

pub overflow_sub-rule : goal.overflow_sub-rule
overflow_sub-rule c =
    let step = c.index-steps-at.result in
    let l = leads c.args.rules.now c.args.round.now c.items-steps.result.now c.args.at step c.requires.over c.requires.bare
    c.items-steps.ensures c.index-steps-at.is in
    number_some c.args.rules.now step.rule l.rule l.is_rule

pub bounds-rules-step : goal.bounds-rules-step
bounds-rules-step c =
    let step = c.index-steps-at.result in
    let l = leads c.args.rules.now c.args.round.now c.items-steps.result.now c.args.at step c.requires.over c.requires.bare
    c.items-steps.ensures c.index-steps-at.is in
    let a = number_some c.args.rules.now step.rule l.rule l.is_rule in
    let b = number_within c.args.rules.now step.rule l.rule l.is_rule in
    omega (arith, a, b)

pub rest-requires : goal.rest-requires
rest-requires c =
    subst (λ xs. c.args.at < length xs) (sym c.items-steps.ensures)
    (slice_get_within c.args.round.now.path.steps c.args.at c.requires.bare.step c.requires.bare.is_step)

pub invert-requires : goal.invert-requires
invert-requires c =
    let rule = c.index-rules-step.result in (
      rule.left,
      leads_back c.args.rules.now c.args.round.now c.items-steps.result.now c.args.at c.index-steps-at.result c.requires.over
          c.requires.bare c.items-steps.ensures c.index-steps-at.is rule c.index-rules-step.is
          c.new.result (c.new.ensures ∙ c.in_ok-rest.ensures) c.in_ok-start.start c.if-step.true c.in_ok-start.ensures.cases,
    )

pub returns-in_ok-path : goal.returns-in_ok-path
returns-in_ok-path c =
    goes_back c.args.rules.now c.args.round.now c.items-steps.result.now c.args.at c.index-steps-at.result c.requires.over
    c.requires.bare c.items-steps.ensures c.index-steps-at.is c.index-rules-step.result c.index-rules-step.is
    c.new.result (c.new.ensures ∙ c.in_ok-rest.ensures) c.in_ok-start.start c.in_ok-path.path c.if-step.true c.in_ok-start.ensures.cases
    c.in_ok-path.ensures.start c.in_ok-path.ensures.target c.in_ok-path.ensures.steps

pub returns-in_ok-start-2 : goal.returns-in_ok-start-2
returns-in_ok-start-2 c =
    goes_on c.args.rules.now c.args.round.now c.items-steps.result.now c.args.at c.index-steps-at.result c.requires.over
    c.requires.bare c.items-steps.ensures c.index-steps-at.is c.index-rules-step.result c.index-rules-step.is
    c.new-else-step.result (c.new-else-step.ensures ∙ c.in_ok-rest.ensures) c.in_ok-start-2.start c.if-step.false
    c.in_ok-start-2.ensures.cases
