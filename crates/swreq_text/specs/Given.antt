-- How many bytes of what a source had left came, and how much of a piece a sink took.
-- A source that does not tell what it has left, and a sink that does not tell what it has taken, say nothing here.
use Rattle.std.specs.Prelude.{◌≡◌, ℕ, ◌+◌, ◌<◌, List, length, take, Option, Some, None}
use Rattle.std.specs.Io.KnownBytes.{Consumes, Appends}

-- the next n bytes of what was left came, and the rest is left
abbrev pub GivesCount : Option (List ℕ) → Option (List ℕ) → ℕ → Type 0
GivesCount old new n = (bytes : List ℕ) × Consumes old new bytes × (length bytes ≡ n)

-- the source tells what it had and has left, and n bytes are gone
abbrev pub HasGiven : Option (List ℕ) → Option (List ℕ) → ℕ → Type 0
HasGiven (Some old) (Some new) n = length old ≡ length new + n
HasGiven (Some old) None n = ⊥
HasGiven None new n = ⊥

-- the first bytes of the piece were taken, and not all of it
abbrev pub AppendsPart : Option (List ℕ) → Option (List ℕ) → List ℕ → Type 0
AppendsPart old new piece = (n : ℕ) × (n < length piece) × Appends old new (take n piece)
