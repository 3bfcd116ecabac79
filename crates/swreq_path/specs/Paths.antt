-- Paths of rewriting: steps by the rules of a list, forth and back, one after the other.
use Rattle.std.specs.Prelude.{◌≡◌, Bool, true, false, not, List, [], ◌∷◌, ◌++◌}
use Rattle.swreq_rule.specs.swreq_word.declared.symbols.Symbol.{Symbol}
use Rattle.swreq_rule.specs.declared.rules.Rule.{Rule}
use Rattle.swreq_rule.specs.Steps.{RuleAt}
use Rattle.swreq_path.specs.declared.steps.RewriteStep.{RewriteStep}
use Rattle.swreq_path.specs.declared.paths.Path.{Path}
use Rattle.swreq_path.specs.declared.paths.Loop.{Loop}

-- the side of a rule that a step replaces: the left one where it goes forward, and else the right one
abbrev pub replaced_side : Bool → Rule → List Symbol
replaced_side true rule = rule.left
replaced_side false rule = rule.right

-- the rule's other side, which the step puts in its place
abbrev pub put_side : Bool → Rule → List Symbol
put_side forward rule = replaced_side (not forward) rule

-- The step leads from u to v: its rule is one of the list, u is its two parts with the replaced side between them, and v is the same with
-- the rule's other side there.
pub record StepLeads (rules : List Rule) (step : RewriteStep) (u v : List Symbol) : Type 0 where
  pub rule : Rule
  pub is_rule : RuleAt rules step.rule rule
  pub source : u ≡ step.before ++ (replaced_side step.forward rule ++ step.after)
  pub target : v ≡ step.before ++ (put_side step.forward rule ++ step.after)

-- the steps, one after the other, lead from u to v
abbrev pub StepsLead : List Rule → List RewriteStep → List Symbol → List Symbol → Type 0
StepsLead rules [] u v = u ≡ v
StepsLead rules (step ∷ steps) u v = (w : List Symbol) × StepLeads rules step u w × StepsLead rules steps w v

-- the path is one over the rules, and v is its target
abbrev pub HasTarget : List Rule → Path → List Symbol → Type 0
HasTarget rules path v = StepsLead rules path.steps path.start v

-- a path over the rules
abbrev pub IsPath : List Rule → Path → Type 0
IsPath rules path = (v : List Symbol) × HasTarget rules path v

-- a loop over the rules: a path over them whose target is its source
abbrev pub IsLoop : List Rule → Loop → Type 0
IsLoop rules round = HasTarget rules round.path round.path.start
