-- The names of ids. An id that is not of the text has the empty name.
use Rattle.std.specs.Prelude.{ℕ, List, [], slice_index_or}
use Rattle.swreq_lexicon.specs.swreq_param.declared.ids.AssocId.{AssocId}
use Rattle.swreq_lexicon.specs.swreq_param.declared.ids.NameId.{NameId}
use Rattle.swreq_lexicon.specs.swreq_param.declared.ids.ProtoId.{ProtoId}
use Rattle.swreq_lexicon.specs.declared.pair.ProtocolName.{ProtocolName}
use Rattle.swreq_lexicon.specs.Views.{LexiconView}

-- bytes
abbrev pub Text : Type 0
Text = List ℕ

abbrev pub protocol_name : LexiconView → ProtoId → Text
protocol_name x p = slice_index_or x.protocols p.rank []

abbrev pub name_text : LexiconView → NameId → Text
name_text x a = slice_index_or x.names a.rank []

-- the first protocol with the first name, for a rank that is not of the text
abbrev pub first_pair : ProtocolName
first_pair = record { proto = record { rank = 0 }; name = record { rank = 0 } }

-- the protocol and the name of an associated type
abbrev pub pair_at : LexiconView → AssocId → ProtocolName
pair_at x d = slice_index_or x.associated d.rank first_pair

-- the protocol and the name of the member symbol with this rank
abbrev pub symbol_at : LexiconView → ℕ → ProtocolName
symbol_at x m = slice_index_or x.symbols m first_pair
