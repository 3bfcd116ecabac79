-- The order in which queries are judged.
use Rattle.std.specs.Prelude.{◌≡◌, ◌<◌, ℕ, List, Contains}
use Rattle.swreq_verify.specs.declared.turns.Turn.{Turn}

-- The query at this place has a turn.
abbrev pub HasTurn : List Turn → ℕ → Type 0
HasTurn turns k = (t : Turn) × Contains turns t × (t.query ≡ k)

-- The first `count` queries have turns, and no others.
pub record AreTurns (turns : List Turn) (count : ℕ) : Type 0 where
  pub within : (t : Turn) → Contains turns t → t.query < count
  pub all : (k : ℕ) → k < count → HasTurn turns k
