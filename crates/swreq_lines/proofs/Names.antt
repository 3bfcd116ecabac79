-- Names, and the ids that are found by them.
use Rattle.std.proofs.Common.{◌≡◌, ◌∙◌, sym, subst, ℕ, false, Some, Contains, [], slice_get}
use Rattle.std.proofs.lemmas.List.Elements.{Contains-get_or}
use Rattle.std.proofs.lemmas.Option.{get_or_from_slice_get, slice_get_within}
use Rattle.swreq_print.specs.swreq_lexicon.declared.pair.ProtocolName.{ProtocolName}
use Rattle.swreq_print.specs.swreq_lexicon.Views.{IsName, IsProtocol, LexiconView}
use Rattle.swreq_print.specs.swreq_param.declared.ids.AssocId.{AssocId}
use Rattle.swreq_print.specs.swreq_param.declared.ids.NameId.{NameId}
use Rattle.swreq_print.specs.swreq_param.declared.ids.ProtoId.{ProtoId}
use Rattle.swreq_print.specs.Names.{Text, first_pair, name_text, pair_at, protocol_name}
use Rattle.swreq_print.specs.Reading.{IsAssociated, TellsApart, in_name}
use Rattle.swreq_lines.specs.Pieces.{IsWithout}
use Rattle.swreq_lines.proofs.Digits.{apart}

module _ {x : LexiconView} (names : TellsApart x) where
  -- ---- bytes

  pub name_without : (byte : ℕ) → in_name byte ≡ false → (a : NameId) → IsName x a → IsWithout byte (name_text x a)
  name_without byte n a h = apart in_name byte n (name_text x a) (names.names a h).bytes

  pub protocol_without : (byte : ℕ) → in_name byte ≡ false → (p : ProtoId) → IsProtocol x p → IsWithout byte (protocol_name x p)
  protocol_without byte n p h = apart in_name byte n (protocol_name x p) (names.protocols p h).bytes

  -- ---- what is found is the one that is named

  pub found_protocol : (p q : ProtoId) (text : Text) → slice_get x.protocols p.rank ≡ Some text → IsProtocol x q
      → text ≡ protocol_name x q → p ≡ q
  found_protocol p q text e h i =
      names.one_protocol p q (slice_get_within x.protocols p.rank text e) h (get_or_from_slice_get x.protocols p.rank text [] e ∙ i)

  pub found_name : (a b : NameId) (text : Text) → slice_get x.names a.rank ≡ Some text → IsName x b → text ≡ name_text x b → a ≡ b
  found_name a b text e h i =
      names.one_name a b (slice_get_within x.names a.rank text e) h (get_or_from_slice_get x.names a.rank text [] e ∙ i)

  pub found_assoc : (d e : AssocId) (q : ProtocolName) → slice_get x.associated d.rank ≡ Some q → IsAssociated x e → q ≡ pair_at x e → d ≡ e
  found_assoc d e q k h i =
      names.one_pair d e (slice_get_within x.associated d.rank q k) h (get_or_from_slice_get x.associated d.rank q first_pair k ∙ i)

  -- ---- and what is named is found

  pub there_protocol : (q : ProtoId) (text : Text) → IsProtocol x q → text ≡ protocol_name x q → Contains x.protocols text
  there_protocol q text h i = subst (Contains x.protocols) (sym i) (Contains-get_or x.protocols q.rank [] h)

  pub there_name : (a : NameId) (text : Text) → IsName x a → text ≡ name_text x a → Contains x.names text
  there_name a text h i = subst (Contains x.names) (sym i) (Contains-get_or x.names a.rank [] h)

  pub there_assoc : (d : AssocId) (q : ProtocolName) → IsAssociated x d → q ≡ pair_at x d → Contains x.associated q
  there_assoc d q h i = subst (Contains x.associated) (sym i) (Contains-get_or x.associated d.rank first_pair h)
