-- A path links what each of its rules links, and links are paths.
use Rattle.std.proofs.Common.{◌≡◌, ℕ, zero, suc, refl, subst, Bool, true, false, not, List, [], ◌∷◌, Some}
use Rattle.std.specs.List.{slice_get}
use Rattle.swreq_rule.specs.swreq_word.declared.symbols.Symbol.{Symbol}
use Rattle.swreq_rule.specs.swreq_word.Relations.{Linked}
use Rattle.swreq_rule.specs.swreq_word.Relations.Linked.{here, forth, back}
use Rattle.swreq_rule.specs.swreq_word.Replacement.{Replaced}
use Rattle.swreq_rule.proofs.swreq_word.Chains.{linked_on, linked_back}
use Rattle.swreq_rule.proofs.swreq_word.Congruence.{Replaced-whole}
use Rattle.swreq_rule.specs.declared.rules.Rule.{Rule}
use Rattle.swreq_rule.specs.Steps.{RuleAt, Step}
use Rattle.swreq_rule.proofs.Context.{Linked-in-place}
use Rattle.swreq_path.specs.declared.steps.RewriteStep.{RewriteStep}
use Rattle.swreq_path.specs.Inverse.{inverse_step}
use Rattle.swreq_path.specs.Paths.{replaced_side, StepLeads, StepsLead}
use Rattle.swreq_path.specs.Laws.{PathsAreLinks}
use Rattle.swreq_path.proofs.Leading.{leads_back}

-- Steps link, in any relation that goes both ways, on, and into longer words, what the rules of these steps link there.
module _ (rules : List Rule) {R : List Symbol → List Symbol → Type 0} (P : RewriteStep → Type 0)
    (place : (u v l r : List Symbol) → Replaced u v l r → Linked R l r → Linked R u v)
    (each : (step : RewriteStep) (rule : Rule) → P step → RuleAt rules step.rule rule → Linked R rule.left rule.right) where
  either_way : (forward : Bool) (rule : Rule) → Linked R rule.left rule.right
      → Linked R (replaced_side forward rule) (replaced_side (not forward) rule)
  either_way true rule k = k
  either_way false rule k = linked_back k

  step_links : (step : RewriteStep) (u v : List Symbol) → P step → StepLeads rules step u v → Linked R u v
  step_links step u v p l =
      place u v (replaced_side step.forward l.rule) (replaced_side (not step.forward) l.rule)
      (record { before = step.before; after = step.after; source = l.source; target = l.target })
      (either_way step.forward l.rule (each step l.rule p l.is_rule))

  pub steps_link : (steps : List RewriteStep) (u v : List Symbol) → ((k : ℕ) (step : RewriteStep) → slice_get steps k ≡ Some step → P step)
      → StepsLead rules steps u v → Linked R u v
  steps_link [] u v a e = subst (λ z. Linked R u z) e here
  steps_link (x ∷ steps) u v a h = linked_on (step_links x u h.0 (a zero x refl) h.1) (steps_link steps h.0 v (λ k. a (suc k)) h.2)

-- so the steps of any path link its ends by the rules
pub path_links : (rules : List Rule) (steps : List RewriteStep) (u v : List Symbol) → StepsLead rules steps u v → Linked (Step rules) u v
path_links rules steps u v =
    steps_link rules (λ step. Unit {0}) (λ u v l r s k. Linked-in-place s k)
    (λ step rule p is. forth (record { rule = rule; number = step.rule; is_rule = is; at = Replaced-whole }) here)
    steps u v (λ k step e. tt)

-- and each link is a step
step_of : (rules : List Rule) (u v : List Symbol) → (s : Step rules u v) → (step : RewriteStep) × StepLeads rules step u v
step_of rules u v s = (
  record { before = s.at.before; rule = s.number; forward = true; after = s.at.after },
  record { rule = s.rule; is_rule = s.is_rule; source = s.at.source; target = s.at.target },
)

link_path : (rules : List Rule) {u v : List Symbol} → Linked (Step rules) u v → (steps : List RewriteStep) × StepsLead rules steps u v
link_path rules here = ([], refl)
link_path rules (forth {a = u} {b = w} s k) =
    let x = step_of rules u w s in let r = link_path rules k in (x.0 ∷ r.0, (w, x.1, r.1))
link_path rules (back {a = u} {b = w} s k) =
    let x = step_of rules w u s in let r = link_path rules k in (inverse_step x.0 ∷ r.0, (w, leads_back rules x.0 w u x.1, r.1))

pub paths_are_links : (rules : List Rule) → PathsAreLinks rules
paths_are_links rules u v = (
  λ k. let r = link_path rules k in (record { start = u; steps = r.0 }, refl, r.1),
  λ p. subst (λ z. Linked (Step rules) z v) p.1 (path_links rules p.0.steps p.0.start v p.2),
)
