-- What the ids of a text say, read back by its lexicon: the words that are written.
use Rattle.std.specs.Prelude.{◌≡◌, ◌≢◌, true, false, List, [], ◌∷◌, Some, slice_get, Contains}
use Rattle.std.specs.Option.{option_map}
use Rattle.swreq_lexicon.specs.swreq_decl.declared.skeleton.Span.{Span}
use Rattle.swreq_lexicon.specs.swreq_decl.declared.skeleton.StepDecl.{StepDecl}
use Rattle.swreq_lexicon.specs.swreq_decl.declared.skeleton.StepDecl.TheVariants as decls
use Rattle.swreq_lexicon.specs.swreq_decl.declared.skeleton.TypeDecl.{TypeDecl}
use Rattle.swreq_lexicon.specs.swreq_decl.declared.skeleton.AssocDecl.{AssocDecl}
use Rattle.swreq_lexicon.specs.swreq_decl.declared.skeleton.Entity.{Entity}
use Rattle.swreq_lexicon.specs.swreq_decl.declared.skeleton.ProtocolDecl.{ProtocolDecl}
use Rattle.swreq_lexicon.specs.swreq_decl.declared.skeleton.Ask.{Ask}
use Rattle.swreq_lexicon.specs.swreq_decl.declared.skeleton.Ask.TheVariants as asks
use Rattle.swreq_lexicon.specs.swreq_decl.declared.skeleton.QueryDecl.{QueryDecl}
use Rattle.swreq_lexicon.specs.swreq_decl.declared.skeleton.Skeleton.{Skeleton}
use Rattle.swreq_lexicon.specs.swreq_names.declared.signature.Signature.{Signature}
use Rattle.swreq_lexicon.specs.swreq_names.Parts as parts
use Rattle.swreq_lexicon.specs.swreq_names.Parts.{Subject, self_of, associated, parameter, written, Constraint, bound, same, in_protocol, in_signature, in_query}
use Rattle.swreq_lexicon.specs.swreq_names.Spaces.{word, self_bytes}
use Rattle.swreq_param.specs.declared.ids.AssocId.{AssocId}
use Rattle.swreq_param.specs.declared.ids.NameId.{NameId}
use Rattle.swreq_param.specs.declared.ids.ParamId.{ParamId}
use Rattle.swreq_param.specs.declared.ids.ProtoId.{ProtoId}
use Rattle.swreq_param.specs.declared.ids.Step.{Step}
use Rattle.swreq_param.specs.declared.ids.Step.TheVariants as steps
use Rattle.swreq_param.specs.Terms.{Term, self, self_param, with_steps}
use Rattle.swreq_param.specs.Terms.Term.{Generic}
use Rattle.swreq_lexicon.specs.swreq_rank.Ranks.{Bytes}
use Rattle.swreq_lexicon.specs.declared.pair.ProtocolName.{ProtocolName}
use Rattle.swreq_lexicon.specs.Views.{LexiconView}
use Rattle.swreq_lowering.specs.declared.ids.FuncId.{FuncId}
use Rattle.swreq_lowering.specs.declared.context.Context.{Context}
use Rattle.swreq_lowering.specs.declared.context.Context.TheVariants as contexts
use Rattle.swreq_lexicon.specs.swreq_derive.Derivation.{TermRequirement}
use Rattle.swreq_lexicon.specs.swreq_derive.Derivation.TermRequirement.{Conforms, Equals, IsAnyObject}
use Rattle.swreq_lowering.specs.Queries.{TermAsks, TermQuery, asked_signature, signature_in_query}
use Rattle.swreq_lowering.specs.Queries.TermAsks.{AsksSignature, AsksReduced, AsksRequirement}
use Rattle.swreq_lowering.specs.Requirements.{subject_of}
use Rattle.swreq_lowering.specs.Types.{type_in}
use Rattle.swreq_lowering.specs.Words.{WordsView, proto_of, name_of, primaries_named}
use Rattle.swreq_world.specs.Lookups.{IsNamedAt, IsParamNamed}
use Rattle.swreq_world.specs.Worlds.{TextWorld, signature_at}

module _ (text : Bytes) (x : LexiconView) where
  -- ---- words

  -- The protocol has the name that is written.
  abbrev pub SaysProtocol : ProtoId → Span → Type 0
  SaysProtocol id p = slice_get x.protocols id.rank ≡ Some (word text p)

  -- The name is the one that is written.
  abbrev pub SaysName : NameId → Span → Type 0
  SaysName id a = slice_get x.names id.rank ≡ Some (word text a)

  -- The associated type is the one of the protocol and of the name that are written.
  pub record SaysAssociated (id : AssocId) (p a : Span) : Type 0 where
    pub pair : ProtocolName
    pub there : slice_get x.associated id.rank ≡ Some pair
    pub protocol : SaysProtocol pair.proto p
    pub name : SaysName pair.name a

  -- ---- steps

  -- `.A` is a name, and `.[P]A` an associated type.
  abbrev pub SaysStep : Step → StepDecl → Type 0
  SaysStep (steps.Name id) (decls.Plain a) = SaysName id a
  SaysStep (steps.Bound id) (decls.Bound p a) = SaysAssociated id p a
  SaysStep _ _ = ⊥

  -- The steps are those that are written, one by one.
  abbrev pub SaySteps : List Step → List StepDecl → Type 0
  SaySteps [] [] = Unit {0}
  SaySteps (y ∷ ys) (d ∷ ds) = SaysStep y d × SaySteps ys ds
  SaySteps _ _ = ⊥

  -- The type parameter is this generic parameter with the steps that are written.
  pub record SaysFrom (g : ParamId) (t : Term) (ds : List StepDecl) : Type 0 where
    pub steps : List Step
    pub is : t ≡ with_steps (Generic g) steps
    pub say : SaySteps steps ds

-- ---- types

-- The type parameter is the written type.
pub data SaysType (text : Bytes) (s : Skeleton) (x : LexiconView) : Context → Term → TypeDecl → Type 0 where
  -- In a protocol a type begins with `Self`, which is τ_0_0,
  of_self : {t : Term} {u : TypeDecl}
      → word text u.head ≡ self_bytes
      → SaysFrom text x self_param t u.steps
      → SaysType text s x contexts.Protocol t u
  -- or with the name of a member of it.
  of_member : {t : Term} {u : TypeDecl}
      → word text u.head ≢ self_bytes
      → SaysFrom text x self_param t (decls.Plain u.head ∷ u.steps)
      → SaysType text s x contexts.Protocol t u
  -- In a signature it begins with the name of a generic parameter, its own or one of the struct around it.
  of_parameter : {g : Signature} {p : ParamId} {t : Term} {u : TypeDecl}
      → IsParamNamed text s g (word text u.head) p
      → SaysFrom text x p t u.steps
      → SaysType text s x (contexts.Signature g) t u

-- What stands in a query is read in the signature that the query asks.
abbrev pub IsReadIn : WordsView → parts.Scope → Context → Type 0
IsReadIn w (in_protocol i) context = context ≡ contexts.Protocol
IsReadIn w (in_signature g) context = context ≡ contexts.Signature g
IsReadIn w (in_query k) context =
    (q : QueryDecl) × (slice_get w.skeleton.queries k ≡ Some q)
    × (context ≡ contexts.Signature (asked_signature (signature_in_query w q.outer q.function)))

-- ---- constraints

module _ (text : Bytes) (s : Skeleton) (x : LexiconView) (context : Context) (t : Term) where
  -- The type parameter is the generic parameter of the signature that is declared with this name.
  abbrev pub SaysParameter : Context → Span → Type 0
  SaysParameter contexts.Protocol p = ⊥
  SaysParameter (contexts.Signature g) p = (q : ParamId) × (t ≡ Generic q) × IsParamNamed text s g (word text p) q

  -- The type parameter is what a constraint is on: `Self`, the member of it that is declared, the generic parameter, or the written type.
  abbrev pub SaysSubject : Subject → Type 0
  SaysSubject (self_of p) = t ≡ self
  SaysSubject (associated a) = SaysFrom text x self_param t (decls.Plain a ∷ [])
  SaysSubject (parameter k p) = SaysParameter context p
  SaysSubject (written u) = SaysType text s x context t u

module _ (w : WordsView) (context : Context) where
  -- What the type stands for is the type.
  abbrev pub IsSaid : TypeDecl → Type 0
  IsSaid t = SaysType w.text w.skeleton w.lexicon context (type_in w context t) t

  -- These are the primary names of a protocol of this name.
  abbrev pub ArePrimaries : Bytes → List Span → Type 0
  ArePrimaries name spans = (p : ProtocolDecl) × Contains w.skeleton.protocols p × (word w.text p.name ≡ name) × (spans ≡ p.primaries)

  -- On the right of a colon the protocol, where it is not the layout, its primary names and each argument are those that are written.
  pub record SaysEntity (e : Entity) : Type 0 where
    pub protocol : e.layout ≡ false → SaysProtocol w.text w.lexicon (proto_of w e.span) e.span
    pub primaries : e.layout ≡ false → ArePrimaries (word w.text e.span) (primaries_named w e.span)
    pub arguments : (u : TypeDecl) → Contains e.args u → IsSaid u

  -- All that the constraint names is what is written.
  abbrev pub SaysConstraint : Constraint → Type 0
  SaysConstraint (bound subject bounds) =
      SaysSubject w.text w.skeleton w.lexicon context (subject_of w context subject) subject
      × ((e : Entity) → Contains bounds e → SaysEntity e)
  SaysConstraint (same t u) = IsSaid t × IsSaid u

-- ---- the names that a protocol declares

-- The names of the protocol, of its associated types and its primary names are those that are written.
pub record SayNames (w : WordsView) (p : ProtocolDecl) : Type 0 where
  pub protocol : SaysProtocol w.text w.lexicon (proto_of w p.name) p.name
  pub members : (m : AssocDecl) → Contains p.members m → SaysName w.text w.lexicon (name_of w m.name) m.name
  pub primaries : (a : Span) → Contains p.primaries a → SaysName w.text w.lexicon (name_of w a) a

-- ---- queries

module _ (text : Bytes) (s : Skeleton) (w : TextWorld) where
  -- The type parameter is the type that is written in a query on the signature.
  abbrev pub SaysIn : FuncId → Term → TypeDecl → Type 0
  SaysIn f t u = SaysType text s w.lexicon (contexts.Signature (signature_at w f).signature) t u

  -- The requirement that is asked of the signature is the one that is written.
  abbrev pub SaysRequirement : FuncId → TermRequirement → Ask → Type 0
  SaysRequirement f (Conforms t p) (asks.Is u e) = SaysIn f t u × (e.layout ≡ false) × SaysProtocol text w.lexicon p e.span
  SaysRequirement f (IsAnyObject t) (asks.Is u e) = SaysIn f t u × (e.layout ≡ true)
  SaysRequirement f (Equals t v) (asks.Same u r) = SaysIn f t u × SaysIn f v r
  SaysRequirement f _ _ = ⊥

  -- What is asked of the signature is what is written.
  abbrev pub SaysAsk : FuncId → TermAsks → Ask → Type 0
  SaysAsk f AsksSignature asks.Signature = Unit {0}
  SaysAsk f (AsksReduced t) (asks.Reduced u) = SaysIn f t u
  SaysAsk f (AsksRequirement r) a = SaysRequirement f r a
  SaysAsk f _ _ = ⊥

  -- The query asks the signature that has the name that is written, and the name of the struct around it, what is written.
  pub record SaysQuery (a : TermQuery) (q : QueryDecl) : Type 0 where
    pub named : IsNamedAt w (option_map (word text) q.outer) (word text q.function) a.f
    pub ask : SaysAsk a.f a.asks q.ask
