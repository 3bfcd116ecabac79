-- The rule of two words, with the greater one on its left.
use Rattle.std.specs.Prelude.{◌≡◌, ◌⊎◌, List}
use Rattle.swreq_word.specs.declared.symbols.Symbol.{Symbol}
use Rattle.swreq_rule.specs.declared.rules.Rule.{Rule}

-- One of the two words is the left side of the rule, and the other its right side. The greater one is on the left, as in every rule.
abbrev pub IsOriented : Rule → List Symbol → List Symbol → Type 0
IsOriented rule u v = ((rule.left ≡ u) × (rule.right ≡ v)) ⊎ ((rule.left ≡ v) × (rule.right ≡ u))
