-- Selections of the requirements of the protocols.
use Rattle.std.specs.Prelude.{ℕ, List, length}
use Rattle.swreq_valid.specs.swreq_derive.Kept.{Owned}
use Rattle.swreq_valid.specs.swreq_lexicon.Views.{LexiconView}
use Rattle.swreq_reqsig.specs.declared.selection.Selection.{Selection}
use Rattle.swreq_reqsig.specs.Families.{family_of}
use Rattle.swreq_reqsig.specs.Settings.{text_in}

abbrev pub lexicon_in : Selection → LexiconView
lexicon_in s = s.setting.text.world.now.lexicon

-- how many protocols there are
abbrev pub protocols_in : Selection → ℕ
protocols_in s = length (lexicon_in s).protocols

-- the requirements whose flags are set
abbrev pub selected_in : Selection → List Owned
selected_in s = family_of (text_in s.setting) s.flags.now
