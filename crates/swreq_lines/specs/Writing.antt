-- What names and lines have to be for what is written of lines to be read as the same lines.
use Rattle.std.specs.Prelude.{ℕ}
use Rattle.swreq_print.specs.swreq_lexicon.Views.{IsName, IsProtocol, LexiconView}
use Rattle.swreq_print.specs.swreq_param.declared.ids.NameId.{NameId}
use Rattle.swreq_print.specs.swreq_param.declared.ids.ProtoId.{ProtoId}
use Rattle.swreq_print.specs.Names.{name_text, protocol_name}
use Rattle.swreq_lines.specs.Pieces.{IsWithout}

-- The byte stands in no name.
pub record AreNamesWithout (byte : ℕ) (x : LexiconView) : Type 0 where
  pub protocols : (p : ProtoId) → IsProtocol x p → IsWithout byte (protocol_name x p)
  pub names : (a : NameId) → IsName x a → IsWithout byte (name_text x a)

-- No name has a line feed.
abbrev pub AreNamesOfOneLine : LexiconView → Type 0
AreNamesOfOneLine x = AreNamesWithout 10 x
