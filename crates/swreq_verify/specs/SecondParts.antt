-- The second part of an input: what stands under the queries of the first.
use Rattle.std.specs.Prelude.{◌≡◌, ◌≢◌, ◌+◌, ℕ, List, [], ◌∷◌, ◌++◌, length}
use Rattle.std.specs.List.{AllByRecursion, flat_map}
use Rattle.swreq_world.specs.swreq_derive.Instances.{TermLine}
use Rattle.swreq_world.specs.swreq_lexicon.Views.{LexiconView}
use Rattle.swreq_lines.specs.GoodLines.{IsReadableLine}
use Rattle.swreq_lines.specs.LineTexts.{texts_from}
use Rattle.swreq_lines.specs.swreq_print.Names.{Text}

-- ---- sections

-- What stands under a query: a heading, and a derivation, which may have no line.
pub record TermSection : Type 0 where
  pub heading : Text
  pub derivation : List TermLine

-- the byte ` `
abbrev pub space : ℕ
space = 32

-- The line does not begin with a space.
abbrev pub IsHeading : Text → Type 0
IsHeading [] = Unit {0}
IsHeading (c ∷ rest) = c ≢ space

-- The heading is one, and the lines of the derivation are of the text.
pub record IsSection (x : LexiconView) (s : TermSection) : Type 0 where
  pub heading : IsHeading s.heading
  pub derivation : AllByRecursion (IsReadableLine x) s.derivation

-- the heading, and under it the derivation, numbered from 1
abbrev pub section_lines : LexiconView → TermSection → List Text
section_lines x s = s.heading ∷ texts_from x 1 s.derivation

-- The lines are those of `count` sections, one after the other.
pub record AreSections (x : LexiconView) (count : ℕ) (lines : List Text) (ss : List TermSection) : Type 0 where
  pub counted : length ss ≡ count
  pub each : AllByRecursion (IsSection x) ss
  pub lines_are : lines ≡ flat_map (section_lines x) ss

-- ---- lines that do not fit

-- The lines are the first ones of `count` sections.
abbrev pub Begin : LexiconView → ℕ → List Text → Type 0
Begin x count lines = (more : List Text) × (ss : List TermSection) × AreSections x count (lines ++ more) ss

-- With the next line they are not the first ones of `count` sections. Where there is no next line, they are not those of `count` sections.
abbrev pub IsStuck : LexiconView → ℕ → List Text → List Text → Type 0
IsStuck x count before [] = (ss : List TermSection) → AreSections x count before ss → ⊥
IsStuck x count before (line ∷ rest) = Begin x count (before ++ line ∷ []) → ⊥

-- The line with this number, counted from 1, is the first that does not fit `count` sections. Where lines are missing, it is the number
-- after the last one.
pub record IsFirstMisfit (x : LexiconView) (count : ℕ) (lines : List Text) (n : ℕ) : Type 0 where
  pub before : List Text
  pub rest : List Text
  pub split : lines ≡ before ++ rest
  pub number : n ≡ length before + 1
  pub fits : Begin x count before
  pub stuck : IsStuck x count before rest
