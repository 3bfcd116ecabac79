-- Steps of reduction, as steps of paths.
use Rattle.std.proofs.Common.{◌≡◌, ℕ, ◌+◌, ◌<◌, refl, sym, ◌∙◌, ap, subst, subst₂, arith, true, not, List, [], ◌∷◌, ◌++◌, append_assoc, length, length-append, take, drop}
use Rattle.std.proofs.lemmas.List.{append_cancel_left}
use Rattle.std.proofs.Math.Seq.{drop-append_seam, take-append_seam}
use Rattle.swreq_rule.specs.swreq_word.declared.symbols.Symbol.{Symbol}
use Rattle.swreq_rule.specs.swreq_word.Overlap.{Containment}
use Rattle.swreq_rule.specs.swreq_word.Relations.{Chain}
use Rattle.swreq_rule.specs.swreq_word.Relations.Chain.{done, more}
use Rattle.swreq_rule.proofs.swreq_word.Cuts.{same_cut}
use Rattle.swreq_rule.specs.declared.rules.Rule.{Rule}
use Rattle.swreq_rule.specs.Steps.{RuleAt}
use Rattle.swreq_rule.specs.Reduction.{FirstRedex, ReductionStep, Reduces}
use Rattle.swreq_rule.proofs.Numbers.{one_rule}
use Rattle.swreq_rule.proofs.Remaining.{one_way, remaining, remaining_falls}
use Rattle.swreq_path.specs.declared.steps.RewriteStep.{RewriteStep}
use Rattle.swreq_path.specs.declared.paths.Path.{Path}
use Rattle.swreq_path.specs.Paths.{replaced_side, StepLeads, StepsLead, HasTarget}
use Rattle.swreq_path.specs.Reductions.{IsRedex, StepsAt, IsReductionStep, StepsReduce, IsReductionPath, AddsReductionStep}

-- the step that the code makes where the left side of a rule stands
pub step_is : (rules : List Rule) (w before after : List Symbol) (at number len : ℕ) (r : Rule) (o : Containment w r.left at)
    → RuleAt rules number r → len ≡ length r.left → before ≡ take at w → after ≡ drop (at + len) w
    → (v : List Symbol) × StepsAt rules (record { before = before; rule = number; forward = true; after = after }) at number w v
step_is rules w before after at number len r o is l b a =
    let whole : w ≡ (o.before ++ r.left) ++ o.after = o.first_is ∙ sym (append_assoc o.before r.left o.after) in
    let front : before ≡ o.before = b ∙ rw (← o.at_is, o.first_is) (take-append_seam o.before (r.left ++ o.after)) in
    let size : at + len ≡ length (o.before ++ r.left) = (let h = o.at_is in rw length-append (omega (arith, h, l))) in
    let back : after ≡ o.after = a ∙ rw (size, whole) (drop-append_seam (o.before ++ r.left) o.after) in (
      before ++ (r.right ++ after),
      record {
        leads = record {
          rule = r;
          is_rule = is;
          source = o.first_is ∙ rw (front, back) refl;
          target = refl;
        };
        by_rule = refl;
        forward = refl;
        at_place = ap length front ∙ o.at_is;
      },
    )

-- the first redex is a redex
pub first_is_redex : (rules : List Rule) (w : List Symbol) (at number : ℕ) → FirstRedex rules w at number → IsRedex rules w at number
first_is_redex rules w at number p = (
  p.chosen.rule,
  p.chosen.is_rule,
  record { before = p.before; after = p.chosen.begins.0; first_is = p.cut ∙ ap (λ x. p.before ++ x) p.chosen.begins.1; at_is = p.at_is },
)

-- a redex is a place at which the left side of its rule stands
pub redex_there : (rules : List Rule) (w : List Symbol) (at number : ℕ) (r : Rule) → IsRedex rules w at number → RuleAt rules number r
    → Containment w r.left at
redex_there rules w at number r redex is =
    subst (λ (x : Rule). Containment w x.left at) (one_rule rules number redex.0 r redex.1 is) redex.2

-- a step forward at the first redex leads where the step of reduction does
reduction_target : (rules : List Rule) (step : RewriteStep) (u v : List Symbol) → StepLeads rules step u v → step.forward ≡ true
    → FirstRedex rules u (length step.before) step.rule → ReductionStep rules u v
reduction_target rules step u v l forward p =
    let same : l.rule ≡ p.chosen.rule = one_rule rules step.rule l.rule p.chosen.rule l.is_rule p.chosen.is_rule in
    let source : u ≡ step.before ++ (l.rule.left ++ step.after) =
    subst (λ b. u ≡ step.before ++ (replaced_side b l.rule ++ step.after)) forward l.source in
    let target : v ≡ step.before ++ (l.rule.right ++ step.after) =
    subst (λ b. v ≡ step.before ++ (replaced_side (not b) l.rule ++ step.after)) forward l.target in
    let c = same_cut step.before (l.rule.left ++ step.after) p.before p.rest (sym source ∙ p.cut) (sym p.at_is) in
    let left : l.rule.left ≡ p.chosen.rule.left = ap (λ (r : Rule). r.left) same in
    let after : step.after ≡ p.chosen.begins.0 =
    append_cancel_left l.rule.left step.after p.chosen.begins.0 (c.1 ∙ p.chosen.begins.1 ∙ ap (λ x. x ++ p.chosen.begins.0) (sym left)) in
    record {
      at = length step.before;
      number = step.rule;
      redex = p;
      target = target ∙ ap (λ x. x ++ (l.rule.right ++ step.after)) c.0 ∙ ap (λ x. p.before ++ (l.rule.right ++ x)) after
          ∙ ap (λ (r : Rule). p.before ++ (r.right ++ p.chosen.begins.0)) same;
    }

pub reduces_by : (rules : List Rule) (step : RewriteStep) (u v : List Symbol) → IsReductionStep rules step u v → ReductionStep rules u v
reduces_by rules step u v s = reduction_target rules step u v s.leads s.forward s.first

-- the step at the first redex, where the word takes the step of reduction
pub at_first : (rules : List Rule) (step : RewriteStep) (at number : ℕ) (u v w : List Symbol) → StepsAt rules step at number u w
    → FirstRedex rules u at number → ReductionStep rules u v → IsReductionStep rules step u v
at_first rules step at number u v w s p r =
    let first : FirstRedex rules u (length step.before) step.rule =
    subst₂ (λ k n. FirstRedex rules u k n) (sym s.at_place) (sym s.by_rule) p in
    let same : w ≡ v = one_way rules u w v (reduction_target rules step u w s.leads s.forward first) r in
    record { leads = subst (λ x. StepLeads rules step u x) same s.leads; forward = s.forward; first = first }

-- one step more
pub reduce_on : (rules : List Rule) (steps : List RewriteStep) (step : RewriteStep) (u v w : List Symbol) → StepsReduce rules steps u v
    → IsReductionStep rules step v w → StepsReduce rules (steps ++ step ∷ []) u w
reduce_on rules [] step u v w e s = (w, subst (λ z. IsReductionStep rules step z w) (sym e) s, refl)
reduce_on rules (x ∷ steps) step u v w h s = (h.0, h.1, reduce_on rules steps step h.0 v w h.2 s)

-- steps of reduction lead on, and reduce
pub reduce_lead : (rules : List Rule) (steps : List RewriteStep) (u v : List Symbol) → StepsReduce rules steps u v
    → StepsLead rules steps u v
reduce_lead rules [] u v h = h
reduce_lead rules (x ∷ steps) u v h = (h.0, h.1.leads, reduce_lead rules steps h.0 v h.2)

pub reduce_chain : (rules : List Rule) (steps : List RewriteStep) (u v : List Symbol) → StepsReduce rules steps u v
    → Chain (ReductionStep rules) u v
reduce_chain rules [] u v h = subst (λ z. Chain (ReductionStep rules) u z) h done
reduce_chain rules (x ∷ steps) u v h = more (reduces_by rules x u h.0 h.1) (reduce_chain rules steps h.0 v h.2)

pub path_reduces : (rules : List Rule) (path : Path) (w v : List Symbol) → IsReductionPath rules path w v
    → HasTarget rules path v × Reduces rules w v
path_reduces rules path w v p = (
  subst (λ u. StepsLead rules path.steps u v) (sym p.start) (reduce_lead rules path.steps w v p.steps),
  record { steps = reduce_chain rules path.steps w v p.steps; irreducible = p.irreducible },
)

-- ---- one step of reduction more

pub left_falls : (rules : List Rule) (old new : List RewriteStep) (u v : List Symbol) → AddsReductionStep rules old new u v
    → remaining rules v < remaining rules u
left_falls rules old new u v (step, e, s) = remaining_falls rules u v (reduces_by rules step u v s)

pub reduce_more : (rules : List Rule) (old new : List RewriteStep) (w u v : List Symbol) → StepsReduce rules old w u
    → AddsReductionStep rules old new u v
    → StepsReduce rules new w v
reduce_more rules old new w u v so_far (step, e, s) =
    subst (λ xs. StepsReduce rules xs w v) (sym e) (reduce_on rules old step w u v so_far s)
