-- The search for a step that shows its rule, and the way round a loop without it.
use Rattle.std.specs.Prelude.{◌≡◌, ◌≢◌, ℕ, suc, ◌<◌, Bool, true, false, List, [], ◌++◌, take, drop, slice_get, Some}
use Rattle.swreq_rule.specs.declared.rules.Rule.{Rule}
use Rattle.swreq_rule.specs.Steps.{RuleAt}
use Rattle.swreq_path.specs.declared.steps.RewriteStep.{RewriteStep}
use Rattle.swreq_path.specs.declared.paths.Loop.{Loop}
use Rattle.swreq_path.specs.Inverse.{inverse}
use Rattle.swreq_path.specs.Paths.{HasTarget}
use Rattle.swreq_homotopy.specs.declared.around.Evidence.{Evidence}
use Rattle.swreq_homotopy.specs.Evidence.{IsMarked, AreOfOthers, Shows}

-- each of the first n steps is of a kept rule other than this one
abbrev pub AreOfOthersBelow : List Bool → ℕ → List RewriteStep → ℕ → Type 0
AreOfOthersBelow keep n steps bound =
    (k : ℕ) (step : RewriteStep) → k < bound → slice_get steps k ≡ Some step → (step.rule ≢ n) × IsMarked keep step.rule

-- at this place stands a step with nothing before and nothing after its side
pub record IsBareAt (steps : List RewriteStep) (at : ℕ) : Type 0 where
  pub step : RewriteStep
  pub is_step : slice_get steps at ≡ Some step
  pub none_before : step.before ≡ []
  pub none_after : step.after ≡ []

-- the step at this place shows its rule
pub record ShowsAt (keep may : List Bool) (steps : List RewriteStep) (at : ℕ) : Type 0 where
  pub bare : IsBareAt steps at
  pub kept : IsMarked keep bare.step.rule
  pub may_go : IsMarked may bare.step.rule
  pub front_others : AreOfOthers keep bare.step.rule (take at steps)
  pub back_others : AreOfOthers keep bare.step.rule (drop (suc at) steps)

abbrev pub NoneShowsBefore : List Bool → List Bool → List RewriteStep → ℕ → Type 0
NoneShowsBefore keep may steps bound = (at : ℕ) → at < bound → ShowsAt keep may steps at → ⊥

abbrev pub NoneShows : List Bool → List Bool → List RewriteStep → Type 0
NoneShows keep may steps = (at : ℕ) → ShowsAt keep may steps at → ⊥

abbrev pub NoneShownBefore : List Bool → List Bool → List Loop → ℕ → Type 0
NoneShownBefore keep may loops bound = (k n : ℕ) (round : Loop) → k < bound → slice_get loops k ≡ Some round → Shows keep may round n → ⊥

-- the steps after the one at this place, and then those from the start up to it
abbrev pub rest_of : List RewriteStep → ℕ → List RewriteStep
rest_of steps at = drop (suc at) steps ++ take at steps

-- these, or where the step goes forward their inverse, so that they lead from the left side of its rule to the right side
abbrev pub way_round : Bool → List RewriteStep → ℕ → List RewriteStep
way_round true steps at = inverse (rest_of steps at)
way_round false steps at = rest_of steps at

-- the evidence names the rule of the step at this place, and its path goes the way round
pub record GoesRound (rules : List Rule) (steps : List RewriteStep) (at : ℕ) (evidence : Evidence) : Type 0 where
  pub step : RewriteStep
  pub is_step : slice_get steps at ≡ Some step
  pub rule : Rule
  pub is_rule : RuleAt rules step.rule rule
  pub names : evidence.rule ≡ step.rule
  pub start : evidence.path.start ≡ rule.left
  pub target : HasTarget rules evidence.path rule.right
  pub steps_are : evidence.path.steps ≡ way_round step.forward steps at
