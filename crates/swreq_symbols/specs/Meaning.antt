-- What machines take from the world of a text: the symbols of its words, and the facts from which requirements are derived.
use Rattle.std.specs.Prelude.{ℕ, List, map, position, unwrap_or, slice_index_or}
use Rattle.swreq_correspondence.specs.swreq_param.declared.ids.AssocId.{AssocId}
use Rattle.swreq_world.specs.swreq_lexicon.declared.pair.ProtocolName.{ProtocolName}
use Rattle.swreq_world.specs.swreq_lexicon.Lexicons.{pair, is_pair}
use Rattle.swreq_world.specs.swreq_lexicon.Views.{LexiconView}
use Rattle.swreq_correspondence.specs.Symbols.{Symbols, MemberName}
pub use Rattle.swreq_world.specs.FactsAt.{facts_of}

abbrev pub member_name : ProtocolName → MemberName
member_name d = record { proto = d.proto; name = d.name }

-- the rank of the member symbol `[P:A]`, which is 0 where A is no member name of P
abbrev pub rank_in : List ProtocolName → ProtocolName → ℕ
rank_in symbols d = unwrap_or (position (is_pair d.proto d.name) symbols) 0

-- the protocol and the name of an associated type
abbrev pub associated_at : LexiconView → AssocId → ProtocolName
associated_at x d = slice_index_or x.associated d.rank (pair (record { rank = 0 }) (record { rank = 0 }))

-- the protocols in written order, the member symbols by rank, and the symbol of each associated type
abbrev pub symbols_of : LexiconView → Symbols
symbols_of x = record {
  protocols = x.written_order;
  members = map member_name x.symbols;
  rank_of = λ d. rank_in x.symbols (associated_at x d);
}
