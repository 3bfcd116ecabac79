-- What the words of a text stand for.
use Rattle.std.specs.Prelude.{ℕ, List, [], Option, Some, None, slice_get}
use Rattle.swreq_param.specs.declared.ids.NameId.{NameId}
use Rattle.swreq_param.specs.declared.ids.ProtoId.{ProtoId}
use Rattle.swreq_lexicon.specs.swreq_decl.declared.skeleton.Span.{Span}
use Rattle.swreq_lexicon.specs.swreq_decl.declared.skeleton.ProtocolDecl.{ProtocolDecl}
use Rattle.swreq_lexicon.specs.swreq_decl.declared.skeleton.Skeleton.{Skeleton}
use Rattle.swreq_lexicon.specs.swreq_names.Spaces.{Spaces, word, protocol_of}
use Rattle.swreq_lexicon.specs.Lexicons.{proto_by, name_by}
use Rattle.swreq_lexicon.specs.Views.{LexiconView}
use Rattle.swreq_lowering.specs.declared.words.Words as code

-- The bytes of a text, its parts, and what its words stand for.
pub record WordsView : Type 0 where
  pub text : List ℕ
  pub skeleton : Skeleton
  pub lexicon : LexiconView

abbrev pub words_by : code.Words → WordsView
words_by w = record { text = w.text.now; skeleton = w.skeleton.now; lexicon = w.lexicon.now }

-- the declared names
abbrev pub declared : WordsView → Spaces
declared w = w.lexicon.resolved.declared

-- the protocol of this name, or that of rank 0 where there is none; where the names of a text resolve, there is one
abbrev pub proto_of : WordsView → Span → ProtoId
proto_of w s = proto_by w.lexicon.protocols (word w.text s)

-- the name of an associated type or of a member
abbrev pub name_of : WordsView → Span → NameId
name_of w s = name_by w.lexicon.names (word w.text s)

-- ---- primary associated types

abbrev pub primaries_of : Option ProtocolDecl → List Span
primaries_of None = []
primaries_of (Some p) = p.primaries

abbrev pub primaries_at : List ProtocolDecl → Option ℕ → List Span
primaries_at ps None = []
primaries_at ps (Some i) = primaries_of (slice_get ps i)

-- the primary names of the protocol of this name, in written order
abbrev pub primaries_named : WordsView → Span → List Span
primaries_named w s = primaries_at w.skeleton.protocols (protocol_of (declared w) (word w.text s))
