-- How lines are laid against queries: section by section, from the front.
use Rattle.std.specs.Prelude.{◌≡◌, ◌⊎◌, ◌+◌, ℕ, List, [], ◌∷◌, ◌++◌, Contains, length, map}
use Rattle.std.specs.List.{AllByRecursion}
use Rattle.swreq_world.specs.swreq_derive.declared.lines.Line.{Line}
use Rattle.swreq_world.specs.swreq_derive.Instances.{TermLine}
use Rattle.swreq_world.specs.swreq_derive.Lines.{line_of}
use Rattle.swreq_world.specs.swreq_lexicon.Views.{LexiconView}
use Rattle.swreq_lines.specs.GoodLines.{IsReadableLine}
use Rattle.swreq_lines.specs.LineTexts.{HasLineIds, line_text, texts_from}
use Rattle.swreq_world.specs.swreq_param.Terms.{Term}
use Rattle.swreq_lines.specs.swreq_print.Names.{Text}
use Rattle.swreq_verify.specs.declared.reading.Section.{Section}
use Rattle.swreq_verify.specs.SecondParts.{IsHeading, IsSection, TermSection, section_lines}

-- ---- lines

-- The line begins with a space.
abbrev pub IsUnder : Text → Type 0
IsUnder line = IsHeading line → ⊥

-- There is no line, or the first one is a heading.
abbrev pub AreHeaded : List Text → Type 0
AreHeaded [] = Unit {0}
AreHeaded (line ∷ rest) = IsHeading line

-- ---- a section over the ids of a table

abbrev pub section_of : List Term → Section → TermSection
section_of terms s = record { heading = s.heading.now; derivation = map (line_of terms) s.derivation.items }

-- The ids of the derivation's lines are of the text and of the table.
abbrev pub HasDerivationIds : LexiconView → List Term → Section → Type 0
HasDerivationIds x terms s = (l : Line) → Contains s.derivation.items l → HasLineIds x terms l

-- The ids of the derivation's lines are of the text and of the table, and it is a section of the text.
pub record IsSectionOver (x : LexiconView) (terms : List Term) (s : Section) : Type 0 where
  pub ids : HasDerivationIds x terms s
  pub section : IsSection x (section_of terms s)

-- ---- the section at the front of lines

-- The lines are those of the section, and after it the rest, which begins with a heading if it has a line.
pub record IsFront (x : LexiconView) (lines : List Text) (s : TermSection) (rest : List Text) : Type 0 where
  pub lines_are : lines ≡ section_lines x s ++ rest
  pub headed : AreHeaded rest

-- After a heading and these lines of a derivation stands one that begins with a space and is no next line of a derivation.
pub record IsBadUnder (x : LexiconView) (lines : List Text) (before : ℕ) : Type 0 where
  pub heading : Text
  pub derivation : List TermLine
  pub line : Text
  pub rest : List Text
  pub lines_are : lines ≡ heading ∷ (texts_from x 1 derivation ++ (line ∷ rest))
  pub number : before ≡ length derivation + 1
  pub is_heading : IsHeading heading
  pub readable : AllByRecursion (IsReadableLine x) derivation
  pub under : IsUnder line
  pub bad : (l : TermLine) → IsReadableLine x l → line ≡ line_text x (length derivation + 1) l → ⊥

-- No section stands at the front: this many lines fit, and the next one does not, or there is none.
abbrev pub IsNoSection : LexiconView → List Text → ℕ → Type 0
IsNoSection x [] before = before ≡ 0
IsNoSection x (line ∷ rest) before = (IsUnder line × (before ≡ 0)) ⊎ IsBadUnder x (line ∷ rest) before
