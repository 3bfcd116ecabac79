use Rattle.std.proofs.Common.{◌≡◌, ◌++◌, ℕ, List, length}
use Rattle.std.specs.List.{AllByRecursion}
use Rattle.swreq_lines.specs.GoodLines.{IsShort}
use Rattle.swreq_lines.specs.LineTexts.{premises_text}
use Rattle.swreq_lines.specs.Pieces.{behind}
use Rattle.swreq_lines.proofs.ReadNumbers.{numbers_text}
use Rattle.swreq_lines.proofs.premises.read_premises.Given as goal

abbrev pub invariant-loop-rest : goal.invariant-loop-rest
invariant-loop-rest l =
    (ns : List ℕ) → AllByRecursion IsShort ns → l.text ≡ behind (premises_text ns)
    → (rs : List ℕ) × (l.numbers.items ++ rs ≡ ns) × AllByRecursion IsShort rs × (l.rest ≡ numbers_text rs)

abbrev pub decreases-loop-rest : goal.decreases-loop-rest
decreases-loop-rest l = length l.rest
