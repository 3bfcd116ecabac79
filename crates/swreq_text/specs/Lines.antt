-- Lines of texts.
use Rattle.std.specs.Prelude.{◌≡◌, ◌≢◌, ◌==◌, ◌⊎◌, ℕ, List, [], ◌∷◌, ◌++◌, All, if◌then◌else◌}
use Rattle.std.specs.List.{onto_first}

abbrev pub line_feed : ℕ
line_feed = 10

-- the lines of a text, each without the line feed at its end; the last one may have none, and is then not empty
abbrev pub lines : List ℕ → List (List ℕ)
lines [] = []
lines (c ∷ rest) = if c == line_feed then [] ∷ lines rest else onto_first c (lines rest)

-- No line feed stands in these bytes.
abbrev pub IsOneLine : List ℕ → Type 0
IsOneLine line = All (λ c. c ≢ line_feed) line

-- Whole lines, each with its line feed: the text is empty, or ends with one.
abbrev pub HasWholeLines : List ℕ → Type 0
HasWholeLines text = (text ≡ []) ⊎ ((before : List ℕ) × (text ≡ before ++ (line_feed ∷ [])))

-- These bytes and their line feed stand before the rest, or they are all, and nothing is left.
abbrev pub StandsBefore : List ℕ → List ℕ → List ℕ → Type 0
StandsBefore line rest text = (text ≡ line ++ (line_feed ∷ rest)) ⊎ ((text ≡ line) × (rest ≡ []))

-- The text is cut after its first line feed, if it has one.
abbrev pub IsCut : List ℕ → List ℕ → List ℕ → Type 0
IsCut text line rest = IsOneLine line × StandsBefore line rest text

-- The text has a first line, and this is it; the rest stands after it.
abbrev pub IsFirstLine : List ℕ → List ℕ → List ℕ → Type 0
IsFirstLine text line rest = (text ≢ []) × IsCut text line rest
