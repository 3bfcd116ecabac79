-- The rules of equations, and what a loop shows of the last rule of a list.
use Rattle.std.specs.Prelude.{◌≡◌, ◌⊎◌, List, [], ◌∷◌, ◌++◌}
use Rattle.swreq_machine.specs.swreq_derive.Derivation.{TermRequirement}
use Rattle.swreq_machine.specs.swreq_derive.Derivation.Source.{Written}
use Rattle.swreq_homotopy.specs.swreq_word.Relations.{Linked}
use Rattle.swreq_machine.specs.swreq_rule.declared.rules.Rule.{Rule}
use Rattle.swreq_machine.specs.swreq_rule.Steps.{Step}
use Rattle.swreq_machine.specs.swreq_correspondence.Symbols.{Symbols, Word, left_side, right_side}

-- The rule has these two sides, the one way round or the other.
abbrev pub HasSides : Word → Word → Rule → Type 0
HasSides u v rule = ((rule.left ≡ u) × (rule.right ≡ v)) ⊎ ((rule.left ≡ v) × (rule.right ≡ u))

-- The rule has the sides of the requirement's equation.
abbrev pub IsOfEquation : Symbols → TermRequirement → Rule → Type 0
IsOfEquation m r rule = HasSides (left_side m (Written [] []) r) (right_side m (Written [] []) r) rule

-- Steps by the rules before the last one link its two sides.
abbrev pub LinkLast : List Rule → Type 0
LinkLast rules = (rest : List Rule) (rule : Rule) → rules ≡ rest ++ rule ∷ [] → Linked (Step rest) rule.left rule.right
