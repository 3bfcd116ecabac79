-- Stored sides, and which of them begins a word.
use Rattle.std.specs.Prelude.{◌≡◌, ◌⊎◌, ℕ, ◌<◌, ◌≤◌, List, ◌++◌, length, take, drop, slice_get, Some}
use Rattle.swreq_rule.specs.swreq_word.declared.symbols.Symbol.{Symbol}
use Rattle.swreq_trie.specs.declared.trie.Entry.{Entry}

-- the side begins the word
abbrev pub Begins : Entry → List Symbol → Type 0
Begins entry w = (after : List Symbol) × (w ≡ entry.left ++ after)

-- no stored side begins the word
abbrev pub NoneBegins : List Entry → List Symbol → Type 0
NoneBegins stored w = (k : ℕ) (entry : Entry) → slice_get stored k ≡ Some entry → Begins entry w → ⊥

-- The first n symbols of the word tell that no stored side begins at the place: none does in any word that begins with them.
abbrev pub TellNone : List Entry → List Symbol → ℕ → ℕ → Type 0
TellNone stored w at count = (v : List Symbol) → take count v ≡ take count w → NoneBegins stored (drop at v)

-- Of the stored sides that begin the word, the shortest one, and of several that are the same the first, has this number.
pub record Shortest (stored : List Entry) (w : List Symbol) (number : ℕ) : Type 0 where
  pub side : ℕ
  pub entry : Entry
  pub is_entry : slice_get stored side ≡ Some entry
  pub number_is : entry.number ≡ number
  pub begins : Begins entry w
  pub least : (k : ℕ) (other : Entry) → slice_get stored k ≡ Some other → Begins other w
      → (length entry.left < length other.left) ⊎ ((length entry.left ≡ length other.left) × (side ≤ k))

abbrev pub NoneEmpty : List Entry → Type 0
NoneEmpty stored = (k : ℕ) (entry : Entry) → slice_get stored k ≡ Some entry → 0 < length entry.left

-- no stored side is longer than this
abbrev pub NoneLonger : List Entry → ℕ → Type 0
NoneLonger stored n = (k : ℕ) (entry : Entry) → slice_get stored k ≡ Some entry → length entry.left ≤ n

-- nor shorter
abbrev pub NoneShorter : List Entry → ℕ → Type 0
NoneShorter stored n = (k : ℕ) (entry : Entry) → slice_get stored k ≡ Some entry → n ≤ length entry.left
