-- Marks.
use Rattle.std.specs.Prelude.{◌≡◌, ℕ, ◌≤◌, List, ◌++◌, Some, length, map, slice_get}
use Rattle.swreq_lex.specs.declared.marks.TheConstants.{MARKS}

-- how the marks are spelled, in the order of the table
abbrev pub spellings : List (List ℕ)
spellings = map (λ mark. mark.now) MARKS

-- the characters before the rest are the n-th mark, and no longer mark begins there: so `==` is taken before `=`
pub record IsMark (n : ℕ) (cs rest : List ℕ) : Type 0 where
  pub spelled : slice_get spellings n ≡ Some cs
  pub longest : (m : ℕ) (other after : List ℕ) → slice_get spellings m ≡ Some other → cs ++ rest ≡ other ++ after → length other ≤ length cs
