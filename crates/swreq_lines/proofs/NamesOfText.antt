-- The names of a text have no line feed.
use Rattle.std.proofs.Common.{[], Contains, refl}
use Rattle.std.proofs.lemmas.List.Elements.{Contains-get_or}
use Rattle.swreq_print.specs.swreq_decl.declared.skeleton.Skeleton.{Skeleton}
use Rattle.swreq_print.specs.swreq_lex.declared.token.TokenKind.TheVariants as kinds
use Rattle.swreq_print.specs.swreq_lex.Slices.{IsSpelled, IsSpelledWord}
use Rattle.swreq_print.specs.swreq_lexicon.Texts.{IsLexiconOf, protocol_names}
use Rattle.swreq_print.specs.swreq_lexicon.Views.{LexiconView}
use Rattle.swreq_print.specs.swreq_names.Mentioned.{mentioned}
use Rattle.swreq_print.specs.swreq_names.WordBytes.{HasWordBytes, in_word}
use Rattle.swreq_print.specs.Names.{Text, name_text, protocol_name}
use Rattle.swreq_lines.specs.Pieces.{IsWithout}
use Rattle.swreq_lines.specs.Writing.{AreNamesOfOneLine}
use Rattle.swreq_lines.proofs.Digits.{apart}

module _ (text : Text) (s : Skeleton) (x : LexiconView) (is : IsLexiconOf text s x)
    (protocols_spelled : (name : Text) → Contains (protocol_names text s.protocols) name → IsSpelled kinds.Name name)
    (names_spelled : (name : Text) → Contains (mentioned text s) name → IsSpelled kinds.Name name)
    (word_bytes : (bytes : Text) → IsSpelledWord bytes → HasWordBytes bytes) where
  one_line : (name : Text) → IsSpelled kinds.Name name → IsWithout 10 name
  one_line name h = apart in_word 10 refl name (word_bytes name h.0).each

  pub names_of_one_line : AreNamesOfOneLine x
  names_of_one_line = record {
    protocols = λ p o. let name = protocol_name x p in
        one_line name (protocols_spelled name ((is.protocols.same name).0 (Contains-get_or x.protocols p.rank [] o)));
    names = λ a o.
        let name = name_text x a in one_line name (names_spelled name ((is.names.same name).0 (Contains-get_or x.names a.rank [] o)));
  }
