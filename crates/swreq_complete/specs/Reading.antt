-- What the first symbols of a word tell of its places: how far a search for left sides read.
use Rattle.std.specs.Prelude.{◌≡◌, ℕ, ◌≤◌, List, take, drop, slice_get, Some}
use Rattle.swreq_rule.specs.swreq_word.declared.symbols.Symbol.{Symbol}
use Rattle.swreq_rule.specs.declared.rules.Rule.{Rule}
use Rattle.swreq_rule.specs.Reduction.{NoneBegins}

-- The first n symbols of the word tell that no left side begins at the place: none does in any word that begins with them.
abbrev pub TellNone : List Rule → List Symbol → ℕ → ℕ → Type 0
TellNone rules w at count = (v : List Symbol) → take count v ≡ take count w → NoneBegins rules (drop at v)

-- none is less than one before it
abbrev pub AreRising : List ℕ → Type 0
AreRising counts = (a b m n : ℕ) → a ≤ b → slice_get counts a ≡ Some m → slice_get counts b ≡ Some n → m ≤ n

-- The counts are for the places of the word from its start on: at each place this many first symbols tell that no left side begins there.
pub record AreRead (rules : List Rule) (w : List Symbol) (counts : List ℕ) : Type 0 where
  pub tell : (at count : ℕ) → slice_get counts at ≡ Some count → TellNone rules w at count
  pub rising : AreRising counts
