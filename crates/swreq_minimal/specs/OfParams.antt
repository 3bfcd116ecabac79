-- The rules of a reduced system whose left sides begin with a generic parameter.
use Rattle.std.specs.Prelude.{◌≡◌, ℕ, ◌<◌, List, [], ◌∷◌, slice_get, Some}
use Rattle.swreq_homotopy.specs.swreq_word.declared.symbols.Symbol.TheVariants.{Param}
use Rattle.swreq_homotopy.specs.swreq_word.Least.{IsMinimal}
use Rattle.swreq_machine.specs.swreq_rule.declared.rules.Rule.{Rule}
use Rattle.swreq_machine.specs.swreq_complete.Reduced.{IsReduced}
use Rattle.swreq_machine.specs.swreq_correspondence.Symbols.{Word}

-- the first symbol of the word is that of a generic parameter
abbrev pub BeginsWithParam : Word → Type 0
BeginsWithParam [] = ⊥
BeginsWithParam (Param d i ∷ w) = Unit {0}
BeginsWithParam (_ ∷ w) = ⊥

-- Rules of the reduced system of the class. Among them is each whose left side begins with a generic parameter, and is that of one of the
-- first `count` rules.
pub record AreOfParams (Class : Word → Word → Type 0) (rules : List Rule) (count : ℕ) (system : List Rule) : Type 0 where
  pub each : (k : ℕ) (rule : Rule) → slice_get system k ≡ Some rule → IsReduced Class rule
  pub all : (j : ℕ) (rule : Rule) → j < count → slice_get rules j ≡ Some rule → BeginsWithParam rule.left → IsMinimal Class rule.left
      → (k : ℕ) × (r : Rule) × (slice_get system k ≡ Some r) × (r.left ≡ rule.left)
