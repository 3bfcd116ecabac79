-- An input in two parts.
use Rattle.std.specs.Prelude.{◌≡◌, ℕ, List, ◌++◌, Contains, codes}
use Rattle.swreq_text.specs.Lines.{lines, HasWholeLines, StandsBefore}

-- the line that divides an input
abbrev pub divider : List ℕ
divider = codes "%%"

-- The input is divided at its first line that is exactly `%%`: the first part has whole lines, and none of them is `%%`; the divider stands
-- after it, and after that the second part.
pub record Divides (input first second : List ℕ) : Type 0 where
  -- the divider, with its line feed if it has one, and what stands after it
  pub behind : List ℕ
  pub whole : input ≡ first ++ behind
  pub divided : StandsBefore divider second behind
  pub lines_before : HasWholeLines first
  pub none_earlier : Contains (lines first) divider → ⊥
