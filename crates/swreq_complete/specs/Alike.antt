-- Words that reduce to one word.
use Rattle.std.specs.Prelude.{List}
use Rattle.swreq_rule.specs.swreq_word.declared.symbols.Symbol.{Symbol}
use Rattle.swreq_rule.specs.declared.rules.Rule.{Rule}
use Rattle.swreq_rule.specs.Reduction.{Reduces}

-- Reduction by the rules leads from both words to one. By complete rules these are exactly the words that steps link.
abbrev pub ReduceAlike : List Rule → List Symbol → List Symbol → Type 0
ReduceAlike rules u v = (w : List Symbol) × Reduces rules u w × Reduces rules v w
