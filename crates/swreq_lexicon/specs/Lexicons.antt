-- What words stand for.
use Rattle.std.specs.Prelude.{ℕ, ◌+◌, ◌&&◌, nat_eq, Bool, List, [], ◌∷◌, position, unwrap_or}
use Rattle.swreq_derive.specs.swreq_param.declared.ids.AssocId.{AssocId}
use Rattle.swreq_derive.specs.swreq_param.declared.ids.NameId.{NameId}
use Rattle.swreq_derive.specs.swreq_param.declared.ids.ProtoId.{ProtoId}
use Rattle.swreq_derive.specs.Derivation.{AssociatedType}
use Rattle.swreq_lexicon.specs.declared.pair.ProtocolName.{ProtocolName}
use Rattle.swreq_rank.specs.Ranks.{Bytes, rank}

-- The bytes of a text, the names of its protocols and its names of members by rank, and its associated types by rank.
pub record Lexicon : Type 0 where
  pub text : Bytes
  pub protocols : List Bytes
  pub names : List Bytes
  pub associated : List ProtocolName

abbrev pub proto_by : List Bytes → Bytes → ProtoId
proto_by protocols name = record { rank = rank protocols name }

abbrev pub name_by : List Bytes → Bytes → NameId
name_by names name = record { rank = rank names name }

-- the pair of a protocol and a name
abbrev pub pair : ProtoId → NameId → ProtocolName
pair p a = record { proto = p; name = a }

abbrev pub is_pair : ProtoId → NameId → ProtocolName → Bool
is_pair p a d = nat_eq p.rank d.proto.rank && nat_eq a.rank d.name.rank

abbrev pub assoc_at : ℕ → AssocId
assoc_at r = record { rank = r }

-- the rank of an associated type, or 0 if there is none; there is one if the names of the text resolve
abbrev pub assoc_by : List ProtocolName → ProtoId → NameId → AssocId
assoc_by associated p a = assoc_at (unwrap_or (position (is_pair p a) associated) 0)

-- ---- the ids of words

abbrev pub proto_id : Lexicon → Bytes → ProtoId
proto_id x name = proto_by x.protocols name

abbrev pub name_id : Lexicon → Bytes → NameId
name_id x name = name_by x.names name

abbrev pub assoc_id : Lexicon → ProtoId → NameId → AssocId
assoc_id x p a = assoc_by x.associated p a

-- ---- associated types with their ids

-- these associated types, with ranks that begin with k
abbrev pub associated_from : ℕ → List ProtocolName → List AssociatedType
associated_from k [] = []
associated_from k (d ∷ ds) = record { proto = d.proto; name = d.name; assoc = record { rank = k } } ∷ associated_from (k + 1) ds

-- the associated types by rank, each with its id
abbrev pub associated_types : List ProtocolName → List AssociatedType
associated_types ds = associated_from 0 ds
