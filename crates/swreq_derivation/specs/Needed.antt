-- What is said of the lines that the last line of a derivation needs.
use Rattle.std.specs.Prelude.{◌≡◌, ◌<◌, ℕ, suc, List, [], ◌∷◌, ◌++◌, Some, length, slice_get, Contains}
use Rattle.swreq_derive.specs.declared.{lines.Line.{Line}, requirements.Statement.{Statement}}

-- There is a last line, and this is what it states.
abbrev pub EndIn : List Line → Statement → Type 0
EndIn ls st = (front : List Line) × (last : Line) × (ls ≡ front ++ last ∷ []) × (last.statement ≡ st)

-- Each line but the last is a premise of a later one.
abbrev pub AreAllUsed : List Line → Type 0
AreAllUsed ls =
    (k : ℕ) → suc k < length ls → (j : ℕ) × (l : Line) × (k < j) × (slice_get ls j ≡ Some l) × Contains l.premises (suc k)

-- No two lines state the same.
abbrev pub StateOnce : List Line → Type 0
StateOnce ls = (i j : ℕ) (a b : Line) → slice_get ls i ≡ Some a → slice_get ls j ≡ Some b → a.statement ≡ b.statement → i ≡ j

-- Each line states what one of the others states, by the same rule.
abbrev pub AreSomeOf : List Line → List Line → Type 0
AreSomeOf some all =
    (k : ℕ) (l : Line) → slice_get some k ≡ Some l
    → (j : ℕ) × (a : Line) × (slice_get all j ≡ Some a) × (l.rule ≡ a.rule) × (l.statement ≡ a.statement)
