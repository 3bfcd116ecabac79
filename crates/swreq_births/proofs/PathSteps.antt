-- The steps of paths, and the rules that numbers name.
use Rattle.std.proofs.Common.{◌≡◌, ℕ, suc, ◌+◌, ◌-◌, ◌<◌, List, ◌++◌, drop, take, slice_get, Some, sym, ap, subst, ◌∙◌, arith}
use Rattle.swreq_correspondence.{specs.swreq_word.declared.symbols.Symbol.{Symbol}, proofs.swreq_derive.LineLemmas.{get_take}}
use Rattle.swreq_complete.specs.{swreq_pair.Pairs.{IsNumberOf}, swreq_rule.{declared.rules.Rule.{Rule}, Steps.{RuleAt}}}
use Rattle.swreq_complete.specs.swreq_path.declared.paths.Path.{Path}
use Rattle.swreq_complete.specs.swreq_path.declared.steps.RewriteStep.{RewriteStep}
use Rattle.swreq_complete.specs.swreq_path.Paths.{HasTarget, replaced_side, put_side, StepLeads, StepsLead}
use Rattle.swreq_complete.proofs.{swreq_lemmas.Elements.{drop_from}, swreq_rule.Numbers.{number_some, number_within, one_rule}}

-- ---- a step of a path

-- The step at this place leads on from the word.
pub record GoesOn (rules : List Rule) (steps : List RewriteStep) (k : ℕ) (step : RewriteStep) (u b : List Symbol) : Type 0 where
  pub next : List Symbol
  pub leads : StepLeads rules step u next
  pub rest : StepsLead rules (drop (k + 1) steps) next b

pub goes_on : (rules : List Rule) (steps : List RewriteStep) (k : ℕ) (step : RewriteStep) (u b : List Symbol)
    → slice_get steps k ≡ Some step → StepsLead rules (drop k steps) u b
    → GoesOn rules steps k step u b
goes_on rules steps k step u b e h =
    let w = subst (λ z. StepsLead rules z u b) (drop_from steps k step e) h in record { next = w.0; leads = w.1; rest = w.2 }

-- if the first steps of a path lead to a word, the next step leads on from it
pub goes_along : (rules taken : List Rule) (path : Path) (k : ℕ) (step : RewriteStep) (u b : List Symbol)
    → rules ≡ taken → slice_get path.steps k ≡ Some step
    → ((x : List Symbol) → StepsLead rules path.steps path.start x → StepsLead rules (drop k path.steps) u x) → HasTarget taken path b
    → GoesOn rules path.steps k step u b
goes_along rules taken path k step u b same e left h =
    goes_on rules path.steps k step u b e (left b (subst (λ z. StepsLead z path.steps path.start b) (sym same) h))

pub went_on : (rules : List Rule) (steps : List RewriteStep) (k : ℕ) (step : RewriteStep) (u v b : List Symbol)
    → slice_get steps k ≡ Some step → StepLeads rules step u v
    → StepsLead rules (drop (k + 1) steps) v b → StepsLead rules (drop k steps) u b
went_on rules steps k step u v b e h r = subst (λ z. StepsLead rules z u b) (sym (drop_from steps k step e)) (v, h, r)

pub is_number : (rules : List Rule) (n : ℕ) (a : Rule) → RuleAt rules n a → IsNumberOf rules n
is_number rules n a h = (number_some rules n a h, number_within rules n a h)

-- a rule among the first k rules, by its place among all rules
pub rule_before : (rules : List Rule) (k n : ℕ) (a : Rule) → RuleAt (take k rules) n a → (n - 1 < k) × (slice_get rules (n - 1) ≡ Some a)
rule_before rules k n a h =
    let e : n ≡ suc h.0 = h.1 in
    let f : h.0 ≡ n - 1 = omega arith in
    let w = get_take k h.0 rules a h.2 in
    (subst (λ z. z < k) f w.0, subst (λ z. slice_get rules z ≡ Some a) f w.1)

pub step_source : (rules : List Rule) (step : RewriteStep) (u v : List Symbol) (rule : Rule) → StepLeads rules step u v
    → RuleAt rules step.rule rule
    → u ≡ step.before ++ (replaced_side step.forward rule ++ step.after)
step_source rules step u v rule h r = h.source ∙ ap (λ z. step.before ++ (replaced_side step.forward z ++ step.after))
    (one_rule rules step.rule h.rule rule h.is_rule r)

pub step_target : (rules : List Rule) (step : RewriteStep) (u v : List Symbol) (rule : Rule) → StepLeads rules step u v
    → RuleAt rules step.rule rule
    → v ≡ step.before ++ (put_side step.forward rule ++ step.after)
step_target rules step u v rule h r = h.target ∙ ap (λ z. step.before ++ (put_side step.forward z ++ step.after))
    (one_rule rules step.rule h.rule rule h.is_rule r)

-- A step of a path that applies this rule, with the words before and after the step.
pub record StepBy (steps : List RewriteStep) (k : ℕ) (step : RewriteStep) (rules : List Rule) (rule : Rule) (u b : List Symbol)
    : Type 0 where
  pub next : List Symbol
  pub leads : StepLeads rules step u next
  pub source : u ≡ step.before ++ (replaced_side step.forward rule ++ step.after)
  pub target : next ≡ step.before ++ (put_side step.forward rule ++ step.after)

pub step_by : (rules taken : List Rule) (path : Path) (k : ℕ) (step : RewriteStep) (u b : List Symbol)
    → rules ≡ taken → slice_get path.steps k ≡ Some step
    → ((x : List Symbol) → StepsLead rules path.steps path.start x → StepsLead rules (drop k path.steps) u x) → HasTarget taken path b
    → (rule : Rule) → RuleAt rules step.rule rule → StepBy path.steps k step rules rule u b
step_by rules taken path k step u b same e left h rule is =
    let go = goes_along rules taken path k step u b same e left h in record {
      next = go.next;
      leads = go.leads;
      source = step_source rules step u go.next rule go.leads is;
      target = step_target rules step u go.next rule go.leads is;
    }
