-- Steps of a path at the places of both rules of a pair.
use Rattle.std.proofs.Common.{◌≡◌, ℕ, ◌≤◌, inl, inr, sym, ◌∙◌, ap, subst, arith, not, List, ◌++◌, length}
use Rattle.std.proofs.lemmas.List.{append_cancel_left}
use Rattle.swreq_rule.specs.swreq_word.declared.symbols.Symbol.{Symbol}
use Rattle.swreq_rule.proofs.swreq_word.Cuts.{same_cut}
use Rattle.swreq_rule.specs.declared.rules.Rule.{Rule}
use Rattle.swreq_rule.specs.declared.rules.Place.{Place}
use Rattle.swreq_rule.specs.Steps.{RuleAt}
use Rattle.swreq_rule.proofs.Numbers.{one_rule}
use Rattle.swreq_rule.proofs.Overlapping.{overlap_within, containment_within}
use Rattle.swreq_pair.specs.Pairs.{IsPair}
use Rattle.swreq_pair.proofs.PairWords.{PutsAt}
use Rattle.swreq_path.specs.declared.steps.RewriteStep.{RewriteStep}
use Rattle.swreq_path.specs.Paths.{replaced_side}
use Rattle.swreq_path.specs.Reductions.{IsRedex, StepsAt}

pub redex_of : (rules : List Rule) (number at : ℕ) (rule : Rule) (w v : List Symbol) → RuleAt rules number rule → PutsAt rule at w v
    → IsRedex rules w at number
redex_of rules number at rule w v is p = (rule, is, record { before = p.before; after = p.after; first_is = p.source; at_is = p.at_is })

-- a step at the place leads to the word that this makes
pub side_is : (rules : List Rule) (step : RewriteStep) (number at : ℕ) (rule : Rule) (w v side : List Symbol)
    → RuleAt rules number rule → PutsAt rule at w v
    → StepsAt rules step at number w side → side ≡ v
side_is rules step number at rule w v side is p s =
    let l = s.leads in
    let same : l.rule ≡ rule = one_rule rules number l.rule rule (subst (λ n. RuleAt rules n l.rule) s.by_rule l.is_rule) is in
    let source : w ≡ step.before ++ (l.rule.left ++ step.after) =
    subst (λ b. w ≡ step.before ++ (replaced_side b l.rule ++ step.after)) s.forward l.source in
    let target : side ≡ step.before ++ (l.rule.right ++ step.after) =
    subst (λ b. side ≡ step.before ++ (replaced_side (not b) l.rule ++ step.after)) s.forward l.target in
    let c =
    same_cut step.before (l.rule.left ++ step.after) p.before (rule.left ++ p.after) (sym source ∙ p.source) (s.at_place ∙ sym p.at_is) in
    let left : l.rule.left ≡ rule.left = ap (λ (r : Rule). r.left) same in
    let after : step.after ≡ p.after = append_cancel_left l.rule.left step.after p.after (c.1 ∙ ap (λ x. x ++ p.after) (sym left)) in
    target ∙ ap (λ x. x ++ (l.rule.right ++ step.after)) c.0 ∙ ap (λ x. p.before ++ (l.rule.right ++ x)) after
    ∙ ap (λ (r : Rule). p.before ++ (r.right ++ p.after)) same ∙ sym p.target

-- the place stands within the first left side
pub place_within : (rules : List Rule) (place : Place) (left right : List Symbol) → (p : IsPair rules place left right)
    → place.at ≤ length p.first.left
place_within rules place left right p = elim p.kind [
  | inl o ↦ (let h = overlap_within p.first.left p.second.left place.at o.overlap in let a = h.1 in omega (arith, a))
  | inr o ↦ (let h = containment_within p.first.left p.second.left place.at o.1.containment in omega (arith, h))
]
