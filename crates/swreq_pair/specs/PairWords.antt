-- The word of a pair, from which a step by its first rule leads to its left side, and a step by its second rule to its right side.
use Rattle.std.specs.Prelude.{◌≡◌, ◌-◌, List, ◌++◌, length, drop}
use Rattle.swreq_rule.specs.swreq_word.declared.symbols.Symbol.{Symbol}
use Rattle.swreq_rule.specs.declared.rules.Rule.{Rule}
use Rattle.swreq_rule.specs.declared.rules.Place.{Place}
use Rattle.swreq_rule.specs.Steps.{RuleAt, StepBy}
use Rattle.swreq_pair.specs.Pairs.{IsPair}

-- the left side of the first rule, and then the part of the second's left side that stands after it
pub record IsPairWord (rules : List Rule) (place : Place) (w : List Symbol) : Type 0 where
  pub first : Rule
  pub second : Rule
  pub first_at : RuleAt rules place.i first
  pub second_at : RuleAt rules place.j second
  pub word_is : w ≡ first.left ++ drop (length first.left - place.at) second.left

-- The sides of a pair are one step from its word, by the one rule and by the other.
abbrev pub PairWordLaw : List Rule → Type 0
PairWordLaw rules = (place : Place) (left right w : List Symbol) → IsPair rules place left right → IsPairWord rules place w
    → StepBy rules place.i w left × StepBy rules place.j w right
