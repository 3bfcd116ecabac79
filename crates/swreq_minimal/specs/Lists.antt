-- Lists over a setting: what is derivable from them, what their rules are, and what is left when one goes through them.
use Rattle.std.specs.Prelude.{ℕ, ◌≤◌, List, length, Option, Result}
use Rattle.swreq_machine.specs.swreq_derive.declared.requirements.Requirement.{Requirement}
use Rattle.swreq_machine.specs.swreq_derive.Derivation.{Derivable, TermRequirement}
use Rattle.swreq_machine.specs.swreq_derive.Derivation.TermStatement.{Requires}
use Rattle.swreq_candidates.specs.swreq_watch.declared.events.Event.{Event}
use Rattle.swreq_machine.specs.swreq_complete.declared.limit.Failed.{Failed}
use Rattle.swreq_machine.specs.swreq_symbols.Texts.{IsRequirementOfText}
use Rattle.swreq_list_rules.specs.declared.setting.Setting.{Setting}
use Rattle.swreq_list_rules.specs.ListRules.{AreOfList, ListRulesView}
use Rattle.swreq_list_rules.specs.Settings.{AreKnownIn, facts_in, params_in, said_in, says_in, source_in}
use Rattle.swreq_minimal.specs.Passed.{IsLeftFrom, IsLeftWithout}
use Rattle.swreq_minimal.specs.Told.{Tells}

-- The requirement is derivable from the list.
abbrev pub IsDerivableFrom : Setting → List Requirement → Requirement → Type 0
IsDerivableFrom s list r = Derivable (facts_in s) (source_in s (said_in s list)) (Requires (says_in s r))

-- The requirement is of the text, and so are those of the list.
pub record IsAskedOf (s : Setting) (list : List Requirement) (r : Requirement) : Type 0 where
  pub known : AreKnownIn s list
  pub asked : IsRequirementOfText s.checked.text r

-- They are the rules of the list.
abbrev pub AreRulesFor : Setting → List Requirement → ListRulesView → Type 0
AreRulesFor s list = AreOfList s (said_in s list)

-- Those from one place up to another were gone through: of all of which the old ones are left from the second place on, the new ones are
-- left
-- from the first on.
abbrev pub GoesThrough : Setting → ℕ → ℕ → List Requirement → List Requirement → Type 0
GoesThrough s from to old new =
    (all : List TermRequirement) → to ≤ length all → IsLeftFrom (facts_in s) (params_in s) to all (said_in s old)
    → IsLeftFrom (facts_in s) (params_in s) from all (said_in s new)

-- Of all of which these are left from the place on, the watcher was told lists that are left without one of them.
abbrev pub TellsWithout : {T : Type 0} → Setting → ℕ → List Requirement → Result T Failed
    → Option (List Event) → Option (List Event) → Type 0
TellsWithout s place left result old new =
    (all : List TermRequirement) → place ≤ length all → IsLeftFrom (facts_in s) (params_in s) place all (said_in s left)
    → Tells s (IsLeftWithout (facts_in s) (params_in s) all) result old new
