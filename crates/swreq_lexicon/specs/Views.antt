-- What contracts see of a lexicon.
use Rattle.std.specs.Prelude.{◌<◌, ℕ, Bool, List, length, slice_index_or}
use Rattle.std.specs.declared.cmp.Ordering.{Ordering}
use Rattle.swreq_closure.specs.Chains.{Matrix, leads}
use Rattle.swreq_names.specs.Names.{NamesView}
use Rattle.swreq_derive.specs.swreq_param.declared.ids.NameId.{NameId}
use Rattle.swreq_derive.specs.swreq_param.declared.ids.ProtoId.{ProtoId}
use Rattle.swreq_lexicon.specs.declared.pair.ProtocolName.{ProtocolName}
use Rattle.swreq_rank.specs.Ranks.{Bytes}
use Rattle.swreq_lexicon.specs.Lexicons.{Lexicon}
use Rattle.swreq_lexicon.specs.Associated as over

-- the protocols of a text
pub record ProtocolsView : Type 0 where
  pub protocols : List Bytes
  pub places : List ℕ
  pub written_order : List ProtoId
  pub resolved : NamesView

pub record LexiconView : Type 0 where
  -- the names of the protocols, by rank
  pub protocols : List Bytes
  -- for each protocol, by rank, the first place of its name in written order
  pub places : List ℕ
  -- the protocols in written order
  pub written_order : List ProtoId
  -- the names of associated types and of members, by rank
  pub names : List Bytes
  -- the associated types, by rank
  pub associated : List ProtocolName
  -- the member symbols [P:A], by rank
  pub symbols : List ProtocolName
  -- what the names of the text refer to, and which protocol inherits which, by places in written order
  pub resolved : NamesView

-- the lexicon of the view, with the bytes of the text
abbrev pub lexicon_of : Bytes → LexiconView → Lexicon
lexicon_of text x = record { text = text; protocols = x.protocols; names = x.names; associated = x.associated }

-- ---- ids of the text

abbrev pub IsProtocol : LexiconView → ProtoId → Type 0
IsProtocol x p = p.rank < length x.protocols

abbrev pub IsName : LexiconView → NameId → Type 0
IsName x a = a.rank < length x.names

-- ---- inheritance by ranks

abbrev pub place_by : List ℕ → ProtoId → ℕ
place_by places p = slice_index_or places p.rank 0

abbrev pub inherits_by : List ℕ → Matrix → ProtoId → ProtoId → Bool
inherits_by places rows p q = leads rows (place_by places p) (place_by places q)

-- the place of P in written order
abbrev pub place_of : LexiconView → ProtoId → ℕ
place_of x p = place_by x.places p

-- P inherits Q.
abbrev pub inherits : LexiconView → ProtoId → ProtoId → Bool
inherits x p q = inherits_by x.places x.resolved.inherits p q

-- how many protocols P inherits
abbrev pub depth : LexiconView → ProtoId → ℕ
depth x p = over.depth (inherits x) (length x.protocols) p

abbrev pub assoc_cmp : LexiconView → ProtocolName → ProtocolName → Ordering
assoc_cmp x = over.assoc_cmp (inherits x) x.associated

abbrev pub InheritsName : LexiconView → ProtoId → NameId → Type 0
InheritsName x p a = over.InheritsName (inherits x) x.associated p a

abbrev pub HasMember : LexiconView → ProtoId → NameId → Type 0
HasMember x p a = over.HasMember (inherits x) x.associated p a

abbrev pub symbol_cmp : LexiconView → ProtocolName → ProtocolName → Ordering
symbol_cmp x = over.symbol_cmp (inherits x) (length x.protocols)
