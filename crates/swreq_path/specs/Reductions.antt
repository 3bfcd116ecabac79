-- Steps forward at a place of a word, and the path of its reduction.
use Rattle.std.specs.Prelude.{◌≡◌, ℕ, true, List, [], ◌∷◌, ◌++◌, length}
use Rattle.swreq_rule.specs.swreq_word.declared.symbols.Symbol.{Symbol}
use Rattle.swreq_rule.specs.swreq_word.Relations.{IsIrreducible}
use Rattle.swreq_rule.specs.swreq_word.Overlap.{Containment}
use Rattle.swreq_rule.specs.declared.rules.Rule.{Rule}
use Rattle.swreq_rule.specs.Steps.{RuleAt, Step}
use Rattle.swreq_rule.specs.Reduction.{FirstRedex}
use Rattle.swreq_path.specs.declared.steps.RewriteStep.{RewriteStep}
use Rattle.swreq_path.specs.declared.paths.Path.{Path}
use Rattle.swreq_path.specs.Paths.{StepLeads}

-- at this place of the word stands the left side of the rule with this number
abbrev pub IsRedex : List Rule → List Symbol → ℕ → ℕ → Type 0
IsRedex rules w at number = (rule : Rule) × RuleAt rules number rule × Containment w rule.left at

-- the step puts the right side of the rule with this number in place of its left side at this place of u, which leads to v
pub record StepsAt (rules : List Rule) (step : RewriteStep) (at number : ℕ) (u v : List Symbol) : Type 0 where
  pub leads : StepLeads rules step u v
  pub by_rule : step.rule ≡ number
  pub forward : step.forward ≡ true
  pub at_place : length step.before ≡ at

-- the step is the one that reduction takes: forward, at the first redex of u
pub record IsReductionStep (rules : List Rule) (step : RewriteStep) (u v : List Symbol) : Type 0 where
  pub leads : StepLeads rules step u v
  pub forward : step.forward ≡ true
  pub first : FirstRedex rules u (length step.before) step.rule

-- the steps of reduction lead, one after the other, from u to v
abbrev pub StepsReduce : List Rule → List RewriteStep → List Symbol → List Symbol → Type 0
StepsReduce rules [] u v = u ≡ v
StepsReduce rules (step ∷ steps) u v = (w : List Symbol) × IsReductionStep rules step u w × StepsReduce rules steps w v

-- the path begins at w, takes the steps of reduction, and ends at v, in which no left side stands
pub record IsReductionPath (rules : List Rule) (path : Path) (w v : List Symbol) : Type 0 where
  pub start : path.start ≡ w
  pub steps : StepsReduce rules path.steps w v
  pub irreducible : IsIrreducible (Step rules) v

-- the new list is the old one with a step of reduction from u to v at its end
abbrev pub AddsReductionStep : List Rule → List RewriteStep → List RewriteStep → List Symbol → List Symbol → Type 0
AddsReductionStep rules old new u v = (step : RewriteStep) × (new ≡ old ++ step ∷ []) × IsReductionStep rules step u v
