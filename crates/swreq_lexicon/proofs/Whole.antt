-- The lexicon of a text from its parts.
use Rattle.std.proofs.Common.{◌≡◌, ◌<◌, ◌↔◌, Bool, ⊎_elim, List, length, map, slice_get, Some, Contains, ap, subst, ◌∙◌}
use Rattle.std.specs.List.{position_from}
use Rattle.std.specs.Str.{bytes_eq}
use Rattle.std.specs.List.Sorted.{IsStrictlySortedBy}
use Rattle.swreq_decl.specs.declared.skeleton.Skeleton.{Skeleton}
use Rattle.swreq_names.specs.Mentioned.{mentioned}
use Rattle.swreq_names.specs.Names.{HasDeclared}
use Rattle.swreq_names.specs.Spaces.{word}
use Rattle.swreq_derive.specs.swreq_param.declared.ids.NameId.{NameId}
use Rattle.swreq_derive.specs.swreq_param.declared.ids.ProtoId.{ProtoId}
use Rattle.swreq_lexicon.specs.declared.pair.ProtocolName.{ProtocolName}
use Rattle.swreq_lexicon.specs.Associated as over
use Rattle.swreq_lexicon.specs.Lexicons.{pair, proto_by}
use Rattle.swreq_rank.specs.Ranks.{Bytes, IsRanking, bytes_cmp}
use Rattle.swreq_lexicon.specs.Symbols.{has_member, symbols_below}
use Rattle.swreq_lexicon.specs.Texts.{IsLexiconOf, protocol_names, declared_in}
use Rattle.swreq_lexicon.specs.Views.{LexiconView, ProtocolsView, IsProtocol, HasMember, place_by, inherits_by, symbol_cmp}
use Rattle.swreq_lexicon.proofs.Places.{declared_names}
use Rattle.swreq_lexicon.proofs.SymbolMembers.{symbol_is, symbol_there, symbols_sorted, member_from, member_to}

module _ (text : Bytes) (s : Skeleton) (ps : ProtocolsView) (names : List Bytes) (pairs associated : List ProtocolName)
    (order : List ProtoId) where
  abbrev inherits : ProtoId → ProtoId → Bool
  inherits p q = inherits_by ps.places ps.resolved.inherits p q

  abbrev pub whole : LexiconView
  whole = record {
    protocols = ps.protocols;
    places = ps.places;
    written_order = ps.written_order;
    names = names;
    associated = associated;
    symbols = symbols_below order (has_member (inherits_by ps.places ps.resolved.inherits) associated) (length names);
    resolved = ps.resolved;
  }

  module _ (within : (d : ProtocolName) → Contains pairs d → d.name.rank < length names)
      (same : (d : ProtocolName) → Contains associated d ↔ Contains pairs d)
      (ordered : IsRanking (over.order_cmp (inherits_by ps.places ps.resolved.inherits) (length ps.protocols))
      (λ p. p.rank < length ps.protocols) order) where
    named : (p : ProtoId) (a : NameId) → over.HasMember inherits associated p a → a.rank < length names
    named p a h = ⊎_elim (λ c. within (pair p a) ((same (pair p a)).0 c)) (λ q. within (pair q.0 a) ((same (pair q.0 a)).0 q.2)) h

    symbols : IsRanking (symbol_cmp whole) (λ d. IsProtocol whole d.proto × HasMember whole d.proto d.name) whole.symbols
    symbols = record {
      sorted = symbols_sorted inherits (length ps.protocols) order (has_member inherits associated) ordered.sorted (length names);
      same = λ d. (
        λ c. let is = symbol_is order (has_member inherits associated) (length names) d c in
            ((ordered.same d.proto).0 is.ordered, member_from inherits associated d.proto d.name is.member),
        λ h. symbol_there order (has_member inherits associated) (length names) d (named d.proto d.name h.1) ((ordered.same d.proto).1 h.0)
            (member_to inherits associated d.proto d.name h.1),
      );
    }

    pub lexicon_is : IsRanking bytes_cmp (Contains (protocol_names text s.protocols)) ps.protocols
        → IsRanking bytes_cmp (Contains (mentioned text s)) names
        → length ps.places ≡ length ps.protocols
        → ps.written_order ≡ map (λ p. proto_by ps.protocols (word text p.name)) s.protocols
        → ((p : ProtoId) (name : Bytes) → slice_get ps.protocols p.rank ≡ Some name
        → position_from (bytes_eq name) 0 (protocol_names text s.protocols) ≡ Some (place_by ps.places p))
        → HasDeclared text s ps.resolved → pairs ≡ declared_in text ps.protocols names s.protocols
        → IsStrictlySortedBy (over.assoc_cmp inherits associated) associated → IsLexiconOf text s whole
    lexicon_is protocols named placed written places declared is sorted = record {
      protocols = protocols;
      names = named;
      placed = placed;
      written_order = written;
      places = λ p name h. ap (position_from (bytes_eq name) 0) (declared_names text s.protocols) ∙ places p name h;
      inheritance = λ p q. declared.tells (place_by ps.places p) (place_by ps.places q);
      associated = record {
        sorted = sorted;
        same = subst (λ (xs : List ProtocolName). (d : ProtocolName) → Contains associated d ↔ Contains xs d) is same;
      };
      symbols = symbols;
      resolved = declared;
    }
