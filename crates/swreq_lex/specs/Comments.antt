-- Comments, as the characters that they are made of.
use Rattle.std.specs.Prelude.{◌≡◌, ℕ, Bool, ◌&&◌, ◌==◌, IsFalse, List, [], ◌∷◌, ◌++◌}
use Rattle.swreq_lex.specs.Characters.{continues_line, IsLongestRun}

-- the two characters are `/*`
abbrev pub is_opening : ℕ → ℕ → Bool
is_opening c d = (c == 47) && (d == 42)

-- the two characters are `*/`
abbrev pub is_closing : ℕ → ℕ → Bool
is_closing c d = (c == 42) && (d == 47)

-- a line comment before the rest: `//` and the line from there on, without its end
pub data IsLineComment : List ℕ → List ℕ → Type 0 where
  line_comment : {line rest : List ℕ} → IsLongestRun continues_line line rest → IsLineComment (47 ∷ 47 ∷ line) rest

-- what stands in a comment after its `/*`: characters at which neither `/*` nor `*/` begins, and
-- comments, in any order, and at last `*/`
pub data IsInside : List ℕ → Type 0 where
  closing : IsInside (42 ∷ 47 ∷ [])
  character : {c d : ℕ} {cs : List ℕ} → IsFalse (is_opening c d) → IsFalse (is_closing c d) → IsInside (d ∷ cs) → IsInside (c ∷ d ∷ cs)
  nested : {inside after cs : List ℕ} → IsInside inside → IsInside after → cs ≡ inside ++ after → IsInside (47 ∷ 42 ∷ cs)

-- a comment that is closed
pub data IsComment : List ℕ → Type 0 where
  comment : {inside : List ℕ} → IsInside inside → IsComment (47 ∷ 42 ∷ inside)
