-- Lines, one after the other, and how many of what they stand for have a property.
use Rattle.std.specs.Prelude.{◌≡◌, ℕ, suc, List, [], ◌∷◌}
use Rattle.std.specs.List.{concat}
use Rattle.swreq_lines.specs.swreq_print.Names.{Text}

-- These are lines, one of each member, in order.
pub data AreLines {A : Type 0} (IsLine : A → Text → Type 0) : List A → List Text → Type 0 where
  none : AreLines IsLine [] []
  more : {x : A} {xs : List A} {line : Text} {lines : List Text} → IsLine x line → AreLines IsLine xs lines
      → AreLines IsLine (x ∷ xs) (line ∷ lines)

-- The text is a line of each member, one after the other.
abbrev pub AreLinesIn : {A : Type 0} → (A → Text → Type 0) → List A → Text → Type 0
AreLinesIn IsLine xs text = (lines : List Text) × AreLines IsLine xs lines × (text ≡ concat lines)

-- This many of these have the property.
pub data Counted {A : Type 0} (Has : A → Type 0) : List A → ℕ → Type 0 where
  nothing : Counted Has [] 0
  one : {x : A} {xs : List A} {n : ℕ} → Has x → Counted Has xs n → Counted Has (x ∷ xs) (suc n)
  other : {x : A} {xs : List A} {n : ℕ} → (Has x → ⊥) → Counted Has xs n → Counted Has (x ∷ xs) n
