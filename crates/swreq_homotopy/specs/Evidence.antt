-- When a loop shows that a rule can be done without, and evidence of it. Rules are counted from 1.
use Rattle.std.specs.Prelude.{◌≡◌, ◌≢◌, ℕ, suc, Bool, true, List, [], ◌∷◌, ◌++◌, slice_get, Some}
use Rattle.swreq_rule.specs.declared.rules.Rule.{Rule}
use Rattle.swreq_rule.specs.Steps.{RuleAt}
use Rattle.swreq_path.specs.declared.steps.RewriteStep.{RewriteStep}
use Rattle.swreq_path.specs.declared.paths.Loop.{Loop}
use Rattle.swreq_path.specs.Paths.{HasTarget, IsLoop}
use Rattle.swreq_homotopy.specs.declared.around.Evidence.{Evidence}

-- each of the loops is one over the rules
abbrev pub AreLoops : List Rule → List Loop → Type 0
AreLoops rules loops = (k : ℕ) (round : Loop) → slice_get loops k ≡ Some round → IsLoop rules round

-- the rule with this number is marked
abbrev pub IsMarked : List Bool → ℕ → Type 0
IsMarked marks n = (k : ℕ) × (n ≡ suc k) × (slice_get marks k ≡ Some true)

-- each of the steps is of a kept rule other than this one
abbrev pub AreOfOthers : List Bool → ℕ → List RewriteStep → Type 0
AreOfOthers keep n steps = (k : ℕ) (step : RewriteStep) → slice_get steps k ≡ Some step → (step.rule ≢ n) × IsMarked keep step.rule

-- The loop shows the rule: the rule is kept and may go, the loop has a step of it with nothing before and nothing after its side, and all
-- other steps of the loop are of other kept rules.
pub record Shows (keep may : List Bool) (round : Loop) (n : ℕ) : Type 0 where
  pub kept : IsMarked keep n
  pub may_go : IsMarked may n
  pub front : List RewriteStep
  pub step : RewriteStep
  pub back : List RewriteStep
  pub cut : round.path.steps ≡ front ++ step ∷ back
  pub of_rule : step.rule ≡ n
  pub none_before : step.before ≡ []
  pub none_after : step.after ≡ []
  pub front_others : AreOfOthers keep n front
  pub back_others : AreOfOthers keep n back

-- some loop of the list shows the rule
abbrev pub IsShown : List Bool → List Bool → List Loop → ℕ → Type 0
IsShown keep may loops n = (k : ℕ) × (round : Loop) × (slice_get loops k ≡ Some round) × Shows keep may round n

-- no loop of the list shows a rule
abbrev pub NoneShown : List Bool → List Bool → List Loop → Type 0
NoneShown keep may loops = (n : ℕ) → IsShown keep may loops n → ⊥

-- the path leads from the left side of the rule to its right side, by steps of kept rules other than it
pub record DoesWithout (rules : List Rule) (keep : List Bool) (evidence : Evidence) : Type 0 where
  pub rule : Rule
  pub is_rule : RuleAt rules evidence.rule rule
  pub start : evidence.path.start ≡ rule.left
  pub target : HasTarget rules evidence.path rule.right
  pub others : AreOfOthers keep evidence.rule evidence.path.steps

-- evidence of a rule that some loop of the list shows
abbrev pub IsEvidence : List Rule → List Bool → List Bool → List Loop → Evidence → Type 0
IsEvidence rules keep may loops evidence = IsShown keep may loops evidence.rule × DoesWithout rules keep evidence
