-- What is printed of the second part of an input.
use Rattle.std.specs.Prelude.{◌≡◌, ℕ, List, ◌++◌, Some, codes, decimal, length, slice_get}
use Rattle.std.specs.List.{flat_map}
use Rattle.swreq_world.specs.swreq_lowering.Queries.{TermQuery}
use Rattle.swreq_text.specs.Lines.{lines}
use Rattle.swreq_lines.specs.swreq_print.Names.{Text}
use Rattle.swreq_world.specs.Worlds.{TextWorld}
use Rattle.swreq_verify.specs.declared.judging.Judgement.{Judgement}
use Rattle.swreq_verify.specs.declared.judging.Judgement.TheVariants.{Skipped, BadLine, Derived, NotThis}
use Rattle.swreq_verify.specs.Judgements.{IsJudged}
use Rattle.swreq_verify.specs.SecondParts.{AreSections, TermSection}

abbrev pub judgement_text : Judgement → Text
judgement_text Skipped = codes "skipped"
judgement_text (BadLine n) = codes "bad line " ++ decimal n
judgement_text Derived = codes "ok"
judgement_text NotThis = codes "not this"

abbrev pub judgement_line : Judgement → Text
judgement_line j = judgement_text j ++ codes "\n"

-- one line for each judgement
abbrev pub judgement_lines : List Judgement → Text
judgement_lines js = flat_map judgement_line js

-- This is said of the section under the query at this place.
abbrev pub IsSaidAt : TextWorld → List TermSection → ℕ → Judgement → Type 0
IsSaidAt w ss k j = (q : TermQuery) (s : TermSection) → slice_get w.queries k ≡ Some q → slice_get ss k ≡ Some s → IsJudged w q s j

-- There is one judgement for each query, on the section that stands under it.
pub record AreJudged (w : TextWorld) (ss : List TermSection) (js : List Judgement) : Type 0 where
  pub count : length js ≡ length w.queries
  pub each : (k : ℕ) (j : Judgement) → slice_get js k ≡ Some j → IsSaidAt w ss k j

-- The second part has one section for each query, and the lines of their judgements are printed.
pub record IsOutput (w : TextWorld) (second out : Text) : Type 0 where
  pub sections : List TermSection
  pub judgements : List Judgement
  pub fits : AreSections w.lexicon (length w.queries) (lines second) sections
  pub judged : AreJudged w sections judgements
  pub printed : out ≡ judgement_lines judgements

-- The new text is the old one with the lines of judgements on the sections after it.
abbrev pub AppendsJudgements : TextWorld → List TermSection → Text → Text → Type 0
AppendsJudgements w ss old new = (js : List Judgement) × AreJudged w ss js × (new ≡ old ++ judgement_lines js)

-- The new text is the old one with an output after it.
abbrev pub AppendsOutput : TextWorld → Text → Text → Text → Type 0
AppendsOutput w second old new = (out : Text) × IsOutput w second out × (new ≡ old ++ out)
