-- What evidence is good for: the two sides of its rule are linked without the rule.
use Rattle.std.specs.Prelude.{◌≡◌, ◌≢◌, ℕ, Bool, List, slice_get, Some}
use Rattle.swreq_rule.specs.swreq_word.declared.symbols.Symbol.{Symbol}
use Rattle.swreq_rule.specs.swreq_word.Relations.{Linked}
use Rattle.swreq_rule.specs.swreq_word.Replacement.{Congruent}
use Rattle.swreq_rule.specs.declared.rules.Rule.{Rule}
use Rattle.swreq_rule.specs.Steps.{RuleAt, Step}
use Rattle.swreq_homotopy.specs.declared.around.Evidence.{Evidence}
use Rattle.swreq_homotopy.specs.Evidence.{IsMarked, DoesWithout}

-- the list has each kept rule other than this one
abbrev pub HasOthers : List Rule → List Bool → ℕ → List Rule → Type 0
HasOthers rules keep n others =
    (k : ℕ) (rule : Rule) → RuleAt rules k rule → IsMarked keep k → k ≢ n → (j : ℕ) × (slice_get others j ≡ Some rule)

-- the two sides of each kept rule other than this one are congruent
abbrev pub AreOthersCongruent : List Rule → List Bool → ℕ → List (List Symbol × List Symbol) → Type 0
AreOthersCongruent rules keep n equations =
    (k : ℕ) (rule : Rule) → RuleAt rules k rule → IsMarked keep k → k ≢ n → Congruent equations rule.left rule.right

-- Steps by the kept rules other than that of the evidence link its two sides.
abbrev pub EvidenceLinks : List Rule → List Bool → Type 0
EvidenceLinks rules keep =
    (evidence : Evidence) (others : List Rule) (rule : Rule) → DoesWithout rules keep evidence → RuleAt rules evidence.rule rule
    → HasOthers rules keep evidence.rule others → Linked (Step others) rule.left rule.right

-- Where the two sides of each kept rule other than that of the evidence are congruent, its own are.
abbrev pub EvidenceIsCongruent : List Rule → List Bool → Type 0
EvidenceIsCongruent rules keep =
    (evidence : Evidence) (equations : List (List Symbol × List Symbol)) (rule : Rule) → DoesWithout rules keep evidence
    → RuleAt rules evidence.rule rule → AreOthersCongruent rules keep evidence.rule equations → Congruent equations rule.left rule.right
