-- The lexicon of a text.
use Rattle.std.specs.Prelude.{◌≡◌, ◌↔◌, ◌≤◌, List, length, map, slice_get, Some, IsTrue, Contains}
use Rattle.std.specs.List.{flat_map}
use Rattle.swreq_decl.specs.declared.skeleton.ProtocolDecl.{ProtocolDecl}
use Rattle.swreq_decl.specs.declared.skeleton.Skeleton.{Skeleton}
use Rattle.swreq_names.specs.Spaces.{word, place, spaces}
use Rattle.swreq_names.specs.Inheritance.{Inherits}
use Rattle.swreq_names.specs.Mentioned.{mentioned}
use Rattle.swreq_names.specs.Names.{HasDeclared}
use Rattle.swreq_derive.specs.swreq_param.declared.ids.ProtoId.{ProtoId}
use Rattle.swreq_lexicon.specs.declared.pair.ProtocolName.{ProtocolName}
use Rattle.swreq_rank.specs.Ranks.{Bytes, IsRanking, bytes_cmp}
use Rattle.swreq_lexicon.specs.Lexicons.{pair, proto_by, name_by}
use Rattle.swreq_lexicon.specs.Views.{LexiconView, IsProtocol, place_of, inherits, assoc_cmp, HasMember, symbol_cmp}

-- the names of the protocols, in written order
abbrev pub protocol_names : Bytes → List ProtocolDecl → List Bytes
protocol_names text ps = map (λ p. word text p.name) ps

module _ (text : Bytes) (protocols names : List Bytes) where
  -- the names that the protocol declares
  abbrev pub declared_by : ProtocolDecl → List ProtocolName
  declared_by p = map (λ m. pair (proto_by protocols (word text p.name)) (name_by names (word text m.name))) p.members

  -- the names that the protocols declare
  abbrev pub declared_in : List ProtocolDecl → List ProtocolName
  declared_in ps = flat_map declared_by ps

-- The text has at most 1,048,576 protocols, associated types and names, as each text of at most 1,048,576 bytes does. Each name is counted
-- once.
pub record IsSmall (text : Bytes) (s : Skeleton) : Type 0 where
  pub protocols : length s.protocols ≤ 1048576
  pub associated : length (flat_map (λ p. p.members) s.protocols) ≤ 1048576
  pub names : (ranking : List Bytes) → IsRanking bytes_cmp (Contains (mentioned text s)) ranking → length ranking ≤ 1048576

-- This is the lexicon of the text.
pub record IsLexiconOf (text : Bytes) (s : Skeleton) (x : LexiconView) : Type 0 where
  -- protocols and names are ordered by their bytes
  pub protocols : IsRanking bytes_cmp (Contains (protocol_names text s.protocols)) x.protocols
  pub names : IsRanking bytes_cmp (Contains (mentioned text s)) x.names
  pub written_order : x.written_order ≡ map (λ p. proto_by x.protocols (word text p.name)) s.protocols
  -- each protocol has one place, the first place of its name
  pub placed : length x.places ≡ length x.protocols
  pub places : (p : ProtoId) (name : Bytes) → slice_get x.protocols p.rank ≡ Some name
      → place (spaces text s).protocols name ≡ Some (place_of x p)
  -- a protocol inherits what the protocol at its place inherits
  pub inheritance : (p q : ProtoId) → IsTrue (inherits x p q) ↔ Inherits text s (place_of x p) (place_of x q)
  -- associated types are the declared pairs
  pub associated : IsRanking (assoc_cmp x) (Contains (declared_in text x.protocols x.names s.protocols)) x.associated
  -- member symbols are the pairs of a protocol and a member name of it
  pub symbols : IsRanking (symbol_cmp x) (λ d. IsProtocol x d.proto × HasMember x d.proto d.name) x.symbols
  pub resolved : HasDeclared text s x.resolved
