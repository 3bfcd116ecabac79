-- Marks on lines: the marked lines, and their new numbers.
use Rattle.std.specs.Prelude.{◌≡◌, ◌⊎◌, ◌<◌, ◌≤◌, ◌-◌, ◌+◌, ℕ, suc, Bool, true, false, List, [], ◌∷◌, Some, length, map, slice_get, take}
use Rattle.std.specs.Prelude.{Contains}
use Rattle.swreq_derive.specs.declared.lines.Line.{Line}

-- the marked items, in order
abbrev pub kept : {A : Type 0} → List Bool → List A → List A
kept [] xs = []
kept (b ∷ marks) [] = []
kept (true ∷ marks) (x ∷ xs) = x ∷ kept marks xs
kept (false ∷ marks) (x ∷ xs) = kept marks xs

-- how many items are marked
abbrev pub marked : List Bool → ℕ
marked [] = 0
marked (true ∷ marks) = suc (marked marks)
marked (false ∷ marks) = marked marks

-- the number that a marked line has among the marked ones
abbrev pub new_number : List Bool → ℕ → ℕ
new_number marks n = marked (take n marks)

-- the line with the new numbers of its premises
abbrev pub renumbered : List Bool → Line → Line
renumbered marks l = record { rule = l.rule; premises = map (new_number marks) l.premises; statement = l.statement }

-- At each place n stands how many of the first n items are marked.
pub record AreNewNumbers (marks : List Bool) (numbers : List ℕ) : Type 0 where
  pub count : length numbers ≡ length marks + 1
  pub each : (n : ℕ) → n ≤ length marks → slice_get numbers n ≡ Some (new_number marks n)

abbrev pub IsMarked : List Bool → ℕ → Type 0
IsMarked marks k = slice_get marks k ≡ Some true

-- It is the number of a line before this place.
abbrev pub IsEarlier : ℕ → ℕ → Type 0
IsEarlier k n = (0 < n) × (n ≤ k)

-- The lines before a place that these numbers name are marked now. The other lines are marked as before.
pub record AreMarked (old new : List Bool) (numbers : List ℕ) (below : ℕ) : Type 0 where
  pub count : length new ≡ length old
  pub stay : (k : ℕ) → IsMarked old k → IsMarked new k
  pub named : (n : ℕ) → Contains numbers n → IsEarlier below n → IsMarked new (n - 1)
  pub only : (k : ℕ) → IsMarked new k → IsMarked old k ⊎ ((k < below) × Contains numbers (suc k))

-- From this place on, the premises of each marked line are marked if they stand before it. Each marked line but the last one is a premise
-- of a marked line after it.
pub record AreNeeded (lines : List Line) (marks : List Bool) (from : ℕ) : Type 0 where
  pub count : length marks ≡ length lines
  pub last : (k : ℕ) → suc k ≡ length lines → IsMarked marks k
  pub closed : (k n : ℕ) (l : Line) → from ≤ k → IsMarked marks k → slice_get lines k ≡ Some l → Contains l.premises n → IsEarlier k n
      → IsMarked marks (n - 1)
  pub used : (k : ℕ) → suc k < length lines → IsMarked marks k
      → (j : ℕ) × (l : Line) × (k < j) × (slice_get lines j ≡ Some l) × IsMarked marks j × Contains l.premises (suc k)
