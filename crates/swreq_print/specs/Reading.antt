-- What a lexicon has to tell for printed texts to be read in one way.
use Rattle.std.specs.Prelude.{◌≡◌, ◌≢◌, ◌<◌, ◌^◌, ◌||◌, ◌==◌, ℕ, Bool, true, not, List, ◌∷◌, length, codes}
use Rattle.std.specs.List.{list_all, AllByRecursion}
use Rattle.swreq_lexicon.specs.swreq_param.declared.ids.AssocId.{AssocId}
use Rattle.swreq_lexicon.specs.swreq_param.declared.ids.NameId.{NameId}
use Rattle.swreq_lexicon.specs.swreq_param.declared.ids.ParamId.{ParamId}
use Rattle.swreq_lexicon.specs.swreq_param.declared.ids.ProtoId.{ProtoId}
use Rattle.swreq_lexicon.specs.swreq_param.Terms.{Term, head}
use Rattle.swreq_lexicon.specs.swreq_derive.Derivation.{TermRequirement}
use Rattle.swreq_lexicon.specs.swreq_derive.Derivation.TermRequirement.{Conforms, IsAnyObject, Equals}
use Rattle.swreq_lexicon.specs.declared.pair.ProtocolName.{ProtocolName}
use Rattle.swreq_lexicon.specs.Views.{LexiconView, IsProtocol, IsName}
use Rattle.swreq_lowering.specs.OfText.{IsTermOf}
use Rattle.swreq_print.specs.Names.{Text, protocol_name, name_text, pair_at}

-- ---- ids of the text

abbrev pub IsAssociated : LexiconView → AssocId → Type 0
IsAssociated x d = d.rank < length x.associated

-- The protocol and the name are of the text.
abbrev pub IsPair : LexiconView → ProtocolName → Type 0
IsPair x d = IsProtocol x d.proto × IsName x d.name

-- ---- names

-- A byte of a name is none of ` `, `,`, `.`, `:`, `=`, `>`, `[` and `]`.
abbrev pub in_name : ℕ → Bool
in_name c = not (c == 32 || (c == 44 || (c == 46 || (c == 58 || (c == 61 || (c == 62 || (c == 91 || c == 93)))))))

-- The text is not empty, and all its bytes may stand in a name.
pub record IsProper (t : Text) : Type 0 where
  pub first : ℕ
  pub rest : Text
  pub is : t ≡ first ∷ rest
  pub bytes : list_all in_name t ≡ true

-- Names are proper and tell ids apart, and no protocol is named `AnyObject`.
pub record TellsApart (x : LexiconView) : Type 0 where
  pub protocols : (p : ProtoId) → IsProtocol x p → IsProper (protocol_name x p)
  pub names : (a : NameId) → IsName x a → IsProper (name_text x a)
  pub one_protocol : (p q : ProtoId) → IsProtocol x p → IsProtocol x q → protocol_name x p ≡ protocol_name x q → p ≡ q
  pub one_name : (a b : NameId) → IsName x a → IsName x b → name_text x a ≡ name_text x b → a ≡ b
  pub pairs : (d : AssocId) → IsAssociated x d → IsPair x (pair_at x d)
  pub one_pair : (d e : AssocId) → IsAssociated x d → IsAssociated x e → pair_at x d ≡ pair_at x e → d ≡ e
  pub no_any_object : (p : ProtoId) → IsProtocol x p → protocol_name x p ≢ codes "AnyObject"

-- ---- signatures

-- The numbers of the generic parameter have 32 bits.
abbrev pub HasNumbers : ParamId → Type 0
HasNumbers g = (g.depth < 2 ^ 32) × (g.index < 2 ^ 32)

-- a type parameter of the text, with such numbers
abbrev pub IsReadableType : LexiconView → Term → Type 0
IsReadableType x t = HasNumbers (head t) × IsTermOf x t

-- a requirement of the text, with such numbers
abbrev pub IsReadableRequirement : LexiconView → TermRequirement → Type 0
IsReadableRequirement x (Conforms t p) = IsReadableType x t × IsProtocol x p
IsReadableRequirement x (IsAnyObject t) = IsReadableType x t
IsReadableRequirement x (Equals t u) = IsReadableType x t × IsReadableType x u

-- a signature of the text, with such numbers
pub record IsReadableSignature (x : LexiconView) (params : List ParamId) (rs : List TermRequirement) : Type 0 where
  pub numbers : AllByRecursion HasNumbers params
  pub requirements : AllByRecursion (IsReadableRequirement x) rs
