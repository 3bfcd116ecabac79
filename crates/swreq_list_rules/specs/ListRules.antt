-- The rules of a list, which grow with it.
use Rattle.std.specs.Prelude.{◌⊎◌, List, [], ◌∷◌, Contains, Ok}
use Rattle.swreq_machine.specs.swreq_derive.declared.requirements.Requirement.{Requirement}
use Rattle.swreq_machine.specs.swreq_derive.Derivation.{TermRequirement}
use Rattle.swreq_machine.specs.swreq_derive.Derivation.Source.{Written}
use Rattle.swreq_machine.specs.swreq_derive.WellFormed.{IsListWellFormed, IsUsable}
use Rattle.swreq_machine.specs.swreq_rule.declared.rules.Rule.{Rule}
use Rattle.swreq_machine.specs.swreq_complete.Answers.{IsAnswer}
use Rattle.swreq_machine.specs.swreq_correspondence.Shown.{ShowsUsable}
use Rattle.swreq_machine.specs.swreq_correspondence.Symbols.{IsInText, left_side, right_side}
use Rattle.swreq_machine.specs.swreq_rounds.Presents.{AreListRules}
use Rattle.swreq_machine.specs.swreq_symbols.declared.over.Over.TheVariants.{Signature}
use Rattle.swreq_machine.specs.swreq_symbols.Overs.{source_over}
use Rattle.swreq_machine.specs.swreq_symbols.Vanishing.{Links}
use Rattle.swreq_list_rules.specs.declared.setting.Setting.{Setting}
use Rattle.swreq_list_rules.specs.Settings.{AreKnownIn, facts_in, params_in, said_in, source_in, symbols_in}

-- what contracts see of the rules of a list
pub record ListRulesView : Type 0 where
  pub rules : List Rule
  -- the members of the list that are not usable
  pub waiting : List Requirement

-- The rules stand for the usable members of the list.
pub record AreRulesOfList (s : Setting) (list : List TermRequirement) (found : List Rule) : Type 0 where
  pub rules : AreListRules (symbols_in s) (facts_in s) (params_in s) list found
  pub in_text : IsInText (symbols_in s) (source_in s list)

-- The rules are those of the list, and of its members exactly those wait that are not usable.
pub record AreOfList (s : Setting) (list : List TermRequirement) (r : ListRulesView) : Type 0 where
  pub rules : AreRulesOfList s list r.rules
  pub known : AreKnownIn s r.waiting
  pub waits : (q : TermRequirement) → Contains (said_in s r.waiting) q → Contains list q × (IsUsable (facts_in s) (source_in s list) q → ⊥)
  pub others : (q : TermRequirement) → Contains list q → IsUsable (facts_in s) (source_in s list) q ⊎ Contains (said_in s r.waiting) q

-- ---- on the way

-- The rules show that the type parameters of the requirement are valid.
abbrev pub AreShownBy : Setting → List Rule → TermRequirement → Type 0
AreShownBy s rules q = ShowsUsable (symbols_in s) (facts_in s) (source_over (Signature s.params)) (Links rules) q

-- So far the rules are those of these members of the list, all of which are usable among themselves, and the other members wait.
pub record AreUnderway (s : Setting) (list : List TermRequirement) (added : List TermRequirement) (found : List Rule)
    (waiting : List Requirement) : Type 0 where
  pub rules : AreListRules (symbols_in s) (facts_in s) (params_in s) added found
  pub usable : IsListWellFormed (facts_in s) (source_in s added)
  pub in_text : IsInText (symbols_in s) (source_in s list)
  pub known : AreKnownIn s waiting
  pub added_in : (q : TermRequirement) → Contains added q → Contains list q
  pub waiting_in : (q : TermRequirement) → Contains (said_in s waiting) q → Contains list q
  pub others_wait : (q : TermRequirement) → Contains list q → Contains added q ⊎ Contains (said_in s waiting) q

-- The rules are these, completed by the equation of the requirement within the limits.
abbrev pub AreCompletedBy : Setting → TermRequirement → List Rule → List Rule → Type 0
AreCompletedBy s r base rules =
    IsAnswer s.limits base ((left_side (symbols_in s) (Written [] []) r, right_side (symbols_in s) (Written [] []) r) ∷ []) (Ok rules)
