-- Lines after a `yes`, as they stand in a second part.
use Rattle.std.specs.Prelude.{◌≡◌, ◌∷◌}
use Rattle.swreq_text.specs.Lines.{lines}
use Rattle.swreq_print.specs.Names.{Text}
use Rattle.swreq_verify.specs.Judgements.{yes}
use Rattle.swreq_verify.specs.SecondParts.{IsSection, TermSection, section_lines}
use Rattle.swreq_valid.specs.swreq_world.Worlds.{TextWorld}

-- The section is the line `yes` and the lines of the text under it.
pub record IsLaidUnderYes (w : TextWorld) (text : Text) (s : TermSection) : Type 0 where
  pub section : IsSection w.lexicon s
  pub lines_are : section_lines w.lexicon s ≡ yes ∷ lines text
