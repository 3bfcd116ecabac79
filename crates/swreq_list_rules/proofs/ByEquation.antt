-- Whether a requirement is derivable, as the rules of a list tell it.
use Rattle.std.proofs.Common.{◌≡◌, ◌↔◌, sym, subst, subst₂, Bool, List, [], ◌∷◌}
use Rattle.std.specs.Bool.{Decides}
use Rattle.swreq_machine.specs.swreq_derive.Derivation.{Derivable, TermRequirement}
use Rattle.swreq_machine.specs.swreq_derive.Derivation.Source.{Written}
use Rattle.swreq_machine.specs.swreq_derive.Derivation.TermRequirement.{Conforms, IsAnyObject, Equals}
use Rattle.swreq_machine.specs.swreq_derive.Derivation.TermStatement.{Requires}
use Rattle.swreq_machine.specs.swreq_derive.declared.known.Params.{Params}
use Rattle.swreq_machine.specs.swreq_derive.Facts.{generic_params}
use Rattle.swreq_machine.specs.swreq_derive.WellFormed.{HasValidSides}
use Rattle.swreq_machine.proofs.swreq_derive.Substitution.{valid_sides}
use Rattle.swreq_machine.specs.swreq_rule.declared.rules.Rule.{Rule}
use Rattle.swreq_machine.specs.swreq_correspondence.Symbols.{IsInText, left_side, right_side}
use Rattle.swreq_machine.specs.swreq_rounds.Presents.{AreListRules}
use Rattle.swreq_machine.specs.swreq_symbols.Vanishing.{Links}
use Rattle.swreq_machine.specs.Machines.{IsMachineOf, MachineView}
use Rattle.swreq_machine.specs.swreq_valid.Rounds.{ended_round, last_rules}
use Rattle.swreq_machine.proofs.swreq_symbols.OfTexts.{text_over}
use Rattle.swreq_machine.proofs.Answering.{by_sides, derivable_shown, shown_derivable}
use Rattle.swreq_list_rules.specs.declared.setting.Setting.{Setting}
use Rattle.swreq_list_rules.specs.ListRules.{AreRulesOfList, AreShownBy}
use Rattle.swreq_list_rules.specs.Settings.{facts_in, source_in, symbols_in, text_in}

module _ (s : Setting) (list : List TermRequirement) (rules : List Rule) (are : AreRulesOfList s list rules) where
  -- a machine with these rules
  abbrev machine : MachineView
  machine = record { params = s.params; rounds = ended_round [] rules ∷ [] }

  is_machine : IsMachineOf (text_in s) list machine
  is_machine = record { rules = are.rules; in_text = are.in_text }

  abbrev Valid : TermRequirement → Type 0
  Valid r = HasValidSides (facts_in s) (source_in s list) r

  -- the rules link the two sides of its equation
  abbrev AreSidesLinked : TermRequirement → Type 0
  AreSidesLinked r = Links rules (left_side (symbols_in s) (Written [] []) r) (right_side (symbols_in s) (Written [] []) r)

  abbrev IsDerivable : TermRequirement → Type 0
  IsDerivable r = Derivable (facts_in s) (source_in s list) (Requires r)

  pub shown_valid : (r : TermRequirement) → AreShownBy s rules r → Valid r
  shown_valid (Conforms t p) h = shown_derivable (text_in s) (text_over s.checked.text).closed machine list is_machine t h
  shown_valid (IsAnyObject t) h = shown_derivable (text_in s) (text_over s.checked.text).closed machine list is_machine t h
  shown_valid (Equals t u) h = (
    shown_derivable (text_in s) (text_over s.checked.text).closed machine list is_machine t h.0,
    shown_derivable (text_in s) (text_over s.checked.text).closed machine list is_machine u h.1,
  )

  pub valid_shown : (r : TermRequirement) → Valid r → AreShownBy s rules r
  valid_shown (Conforms t p) h = derivable_shown (text_in s) (text_over s.checked.text).closed machine list is_machine t h
  valid_shown (IsAnyObject t) h = derivable_shown (text_in s) (text_over s.checked.text).closed machine list is_machine t h
  valid_shown (Equals t u) h = (
    derivable_shown (text_in s) (text_over s.checked.text).closed machine list is_machine t h.0,
    derivable_shown (text_in s) (text_over s.checked.text).closed machine list is_machine u h.1,
  )

  by_linked : (r : TermRequirement) → Valid r → IsDerivable r ↔ AreSidesLinked r
  by_linked (Conforms t p) v = by_sides (text_in s) (text_over s.checked.text).closed machine list is_machine (Conforms t p) v
  by_linked (IsAnyObject t) v = by_sides (text_in s) (text_over s.checked.text).closed machine list is_machine (IsAnyObject t) v
  by_linked (Equals t u) v = by_sides (text_in s) (text_over s.checked.text).closed machine list is_machine (Equals t u) v

  pub not_held : (r : TermRequirement) → (AreShownBy s rules r → ⊥) → IsDerivable r → ⊥
  not_held r n e = n (valid_shown r (valid_sides (facts_in s) (source_in s list) r e))

  pub held : (r : TermRequirement) (b : Bool) → AreShownBy s rules r → Decides b (AreSidesLinked r) → Decides b (IsDerivable r)
  held r b h d = let law = by_linked r (shown_valid r h) in ((λ e. law.1 (d.0 e)), λ e. d.1 (law.0 e))

-- the rules of a machine of the list
pub of_machine : (s : Setting) (list : List TermRequirement) (built : MachineView) (rules : List Rule) → IsMachineOf (text_in s) list built
    → built.params ≡ s.params → rules ≡ last_rules built.rounds → AreRulesOfList s list rules
of_machine s list built rules is params same = record {
  rules = subst₂ (λ (p : Params) z. AreListRules (symbols_in s) (facts_in s) (generic_params p) list z) params (sym same) is.rules;
  in_text = subst (λ (p : Params). IsInText (symbols_in s) (Written (generic_params p) list)) params is.in_text;
}
