-- The way round a loop, without a step that has nothing before and nothing after its side.
use Rattle.std.proofs.Common.{◌≡◌, ℕ, suc, refl, sym, ◌∙◌, ap, subst, subst₂, Bool, true, false, List, [], ◌∷◌, ◌++◌, append-nil, length, take, drop, get_or, Some}
use Rattle.std.specs.List.{slice_get}
use Rattle.std.proofs.lemmas.Option.{slice_get_within, slice_get_read}
use Rattle.swreq_rule.specs.swreq_word.declared.symbols.Symbol.{Symbol}
use Rattle.swreq_rule.specs.declared.rules.Rule.{Rule}
use Rattle.swreq_rule.specs.Steps.{RuleAt}
use Rattle.swreq_rule.proofs.Numbers.{one_rule}
use Rattle.swreq_path.specs.declared.steps.RewriteStep.{RewriteStep}
use Rattle.swreq_path.specs.declared.paths.Loop.{Loop}
use Rattle.swreq_path.specs.Paths.{replaced_side, put_side, StepsLead, IsLoop}
use Rattle.swreq_path.proofs.Leading.{lead_on, lead_parts}
use Rattle.swreq_homotopy.specs.declared.around.Evidence.{Evidence}
use Rattle.swreq_homotopy.specs.Evidence.{AreOfOthers, Shows, DoesWithout}
use Rattle.swreq_homotopy.specs.Search.{IsBareAt, ShowsAt, rest_of, GoesRound}
use Rattle.swreq_homotopy.proofs.Others.{cut_at, same_step, front_of, back_of, shows_by, others_round}

bare : (before after side u : List Symbol) → before ≡ [] → after ≡ [] → u ≡ before ++ (side ++ after) → u ≡ side
bare before after side u b a e = e ∙ ap (λ x. x ++ (side ++ after)) b ∙ ap (λ x. side ++ x) a ∙ append-nil side

-- the rest of the loop leads from the side that the step puts to the side that it replaces
pub record LeadsRound (rules : List Rule) (steps : List RewriteStep) (at : ℕ) (step : RewriteStep) : Type 0 where
  pub rule : Rule
  pub is_rule : RuleAt rules step.rule rule
  pub leads : StepsLead rules (rest_of steps at) (put_side step.forward rule) (replaced_side step.forward rule)

pub leads_round : (rules : List Rule) (round : Loop) (at : ℕ) (step : RewriteStep) → IsLoop rules round → IsBareAt round.path.steps at
    → slice_get round.path.steps at ≡ Some step → LeadsRound rules round.path.steps at step
leads_round rules round at step over b is =
    let steps = round.path.steps in
    let u = round.path.start in
    let same : b.step ≡ step = same_step steps at b.step step b.is_step is in
    let before : step.before ≡ [] = ap (λ (s : RewriteStep). s.before) (sym same) ∙ b.none_before in
    let after : step.after ≡ [] = ap (λ (s : RewriteStep). s.after) (sym same) ∙ b.none_after in
    let r = lead_parts rules (take at steps) (step ∷ drop (suc at) steps) u u
    (subst (λ xs. StepsLead rules xs u u) (cut_at steps at step is) over) in
    let l = r.2.1 in
    let front : StepsLead rules (take at steps) u (replaced_side step.forward l.rule) =
    subst (λ z. StepsLead rules (take at steps) u z)
    (bare step.before step.after (replaced_side step.forward l.rule) r.0 before after l.source) r.1 in
    let back : StepsLead rules (drop (suc at) steps) (put_side step.forward l.rule) u =
    subst (λ z. StepsLead rules (drop (suc at) steps) z u)
    (bare step.before step.after (put_side step.forward l.rule) r.2.0 before after l.target) r.2.2 in
    record {
      rule = l.rule;
      is_rule = l.is_rule;
      leads = lead_on rules (drop (suc at) steps) (take at steps) (put_side step.forward l.rule) u
          (replaced_side step.forward l.rule) back front;
    }

-- the step that is read there
pub step_read : (round : Loop) (given : List RewriteStep) (at : ℕ) (x : RewriteStep) → IsBareAt round.path.steps at
    → given ≡ round.path.steps
    → x ≡ get_or given at x → slice_get round.path.steps at ≡ Some x
step_read round given at x b same e =
    let steps = round.path.steps in
    slice_get_read steps (length steps) at x refl (slice_get_within steps at b.step b.is_step) (e ∙ ap (λ xs. get_or xs at x) same)

-- where the step goes forward, the rest leads from its right side to its left side, and its inverse back
pub forward_leads : (rules : List Rule) (steps : List RewriteStep) (at : ℕ) (step : RewriteStep) (rule : Rule) → step.forward ≡ true
    → RuleAt rules step.rule rule
    → LeadsRound rules steps at step → StepsLead rules (rest_of steps at) rule.right rule.left
forward_leads rules steps at step rule forward is l =
    let same = one_rule rules step.rule l.rule rule l.is_rule is in
    subst (λ (r : Rule). StepsLead rules (rest_of steps at) r.right r.left) same
    (subst (λ b. StepsLead rules (rest_of steps at) (put_side b l.rule) (replaced_side b l.rule)) forward l.leads)

-- where it goes back, from its left side to its right side
pub backward_leads : (rules : List Rule) (steps : List RewriteStep) (at : ℕ) (step : RewriteStep) (rule : Rule) → step.forward ≡ false
    → RuleAt rules step.rule rule
    → LeadsRound rules steps at step → StepsLead rules (rest_of steps at) rule.left rule.right
backward_leads rules steps at step rule backward is l =
    let same = one_rule rules step.rule l.rule rule l.is_rule is in
    subst (λ (r : Rule). StepsLead rules (rest_of steps at) r.left r.right) same
    (subst (λ b. StepsLead rules (rest_of steps at) (put_side b l.rule) (replaced_side b l.rule)) backward l.leads)

-- the evidence of a step that shows its rule
module _ (rules : List Rule) (keep may : List Bool) (round : Loop) (at : ℕ) (evidence : Evidence) where
  pub shown_round : ShowsAt keep may round.path.steps at → GoesRound rules round.path.steps at evidence → Shows keep may round evidence.rule
  shown_round s g =
      let same = same_step round.path.steps at s.bare.step g.step s.bare.is_step g.is_step in
      subst (Shows keep may round) (ap (λ (x : RewriteStep). x.rule) same ∙ sym g.names) (shows_by keep may round at s)

  pub does_without : ShowsAt keep may round.path.steps at → GoesRound rules round.path.steps at evidence → DoesWithout rules keep evidence
  does_without s g =
      let steps = round.path.steps in
      let front = front_of keep may steps at g.step g.is_step s in
      let back = back_of keep may steps at g.step g.is_step s in
      record {
        rule = g.rule;
        is_rule = subst (λ n. RuleAt rules n g.rule) (sym g.names) g.is_rule;
        start = g.start;
        target = g.target;
        others =
            subst₂ (AreOfOthers keep) (sym g.names) (sym g.steps_are) (others_round keep g.step.rule g.step.forward steps at front back);
      }
