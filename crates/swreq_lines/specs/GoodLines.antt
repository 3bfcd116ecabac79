-- Which lines of a text are good, and what is read of them.
use Rattle.std.specs.Prelude.{◌≡◌, ◌<◌, ◌+◌, ◌^◌, ℕ, suc, List, [], ◌∷◌, Some, map, slice_get, IfSome}
use Rattle.std.specs.List.{AllByRecursion}
use Rattle.swreq_print.specs.swreq_param.Terms.{Term}
use Rattle.swreq_print.specs.swreq_derive.declared.lines.Line.{Line}
use Rattle.swreq_print.specs.swreq_derive.Derivation.{TermStatement}
use Rattle.swreq_print.specs.swreq_derive.Derivation.TermStatement.{IsValid, Requires}
use Rattle.swreq_print.specs.swreq_derive.Instances.{HasNumber, TermLine}
use Rattle.swreq_print.specs.swreq_derive.Lines.{line_of}
use Rattle.swreq_print.specs.swreq_lexicon.Views.{LexiconView}
use Rattle.swreq_text.specs.Lines.{lines}
use Rattle.swreq_print.specs.Names.{Text}
use Rattle.swreq_print.specs.Reading.{IsReadableRequirement, IsReadableType}
use Rattle.swreq_lines.specs.declared.lines.LinesErr.{LinesErr}
use Rattle.swreq_lines.specs.declared.lines.LinesErr.TheVariants.{Memory, Syntax}
use Rattle.swreq_lines.specs.declared.rules.Fields.{Fields}
use Rattle.swreq_lines.specs.LineTexts.{HasRuleIds, fields_of, line_text}

-- ---- lines of the text

abbrev pub IsShort : ℕ → Type 0
IsShort n = n < 2 ^ 32

abbrev pub HasReadableFields : LexiconView → Fields → Type 0
HasReadableFields x f = HasRuleIds x f × IfSome f.number IsShort

abbrev pub IsReadableStatement : LexiconView → TermStatement → Type 0
IsReadableStatement x (IsValid t) = IsReadableType x t
IsReadableStatement x (Requires r) = IsReadableRequirement x r

-- A line of the text: its protocols, names and bound members are those of the text, and its numbers are below 2^32.
pub record IsReadableLine (x : LexiconView) (l : TermLine) : Type 0 where
  pub statement : IsReadableStatement x l.statement
  pub rule : HasReadableFields x (fields_of l.rule)
  pub premises : AllByRecursion IsShort l.premises

-- ---- good lines

-- Bytes are good as the line with this number where they are the text of a line of the text with this number.
pub record IsGood (x : LexiconView) (n : ℕ) (bytes : Text) : Type 0 where
  pub line : TermLine
  pub readable : IsReadableLine x line
  pub number : IsShort n
  pub is : bytes ≡ line_text x n line

-- The bytes are the text of this line with this number, and of no other.
pub record IsTextOf (x : LexiconView) (n : ℕ) (bytes : Text) (l : TermLine) : Type 0 where
  pub readable : IsReadableLine x l
  pub is : bytes ≡ line_text x n l
  pub only : (k : TermLine) → IsReadableLine x k → bytes ≡ line_text x n k → k ≡ l

-- These are the texts of the lines, which are numbered from n on.
abbrev pub AreTextsOf : LexiconView → ℕ → List Text → List TermLine → Type 0
AreTextsOf x n [] [] = Unit {0}
AreTextsOf x n [] (l ∷ ls) = ⊥
AreTextsOf x n (bytes ∷ rest) [] = ⊥
AreTextsOf x n (bytes ∷ rest) (l ∷ ls) = IsTextOf x n bytes l × AreTextsOf x (suc n) rest ls

-- The lines of the text up to its end are the texts of these lines, which are numbered from 1.
abbrev pub AreLinesOf : LexiconView → List Term → Text → List Line → Type 0
AreLinesOf x terms text ls = AreTextsOf x 1 (lines text) (map (line_of terms) ls)

-- The line with this number is the first that is not good.
pub record IsFirstNotGood (x : LexiconView) (text : Text) (n : ℕ) : Type 0 where
  pub bytes : Text
  pub number : HasNumber n (lines text) bytes
  pub bad : IsGood x n bytes → ⊥
  pub before : (k : ℕ) (good : Text) → k + 1 < n → slice_get (lines text) k ≡ Some good → IsGood x (k + 1) good

-- Syntax names the first line that is not good; nothing is said of Memory.
abbrev pub IsRefused : LexiconView → Text → LinesErr → Type 0
IsRefused x text (Syntax n) = IsFirstNotGood x text n
IsRefused x text Memory = Unit {0}
