-- The types of least words, over a list.
use Rattle.std.specs.Prelude.{◌≡◌, ℕ, ◌<◌, ◌≤◌, [], ◌∷◌}
use Rattle.swreq_derive.specs.swreq_param.declared.ids.AssocId.{AssocId}
use Rattle.swreq_derive.specs.swreq_param.declared.ids.NameId.{NameId}
use Rattle.swreq_derive.specs.swreq_param.declared.ids.ProtoId.{ProtoId}
use Rattle.swreq_derive.specs.swreq_param.declared.ids.Step.TheVariants.{Bound, Name}
use Rattle.swreq_derive.specs.swreq_param.Terms.{Term}
use Rattle.swreq_derive.specs.swreq_param.Terms.Term.{Generic, Member}
use Rattle.swreq_derive.specs.Derivation.{TermFacts, Source, Declares, Derivable}
use Rattle.swreq_derive.specs.Derivation.TermRequirement.{Conforms}
use Rattle.swreq_derive.specs.Derivation.TermStatement.{Requires}
use Rattle.swreq_word.specs.declared.symbols.Symbol.TheVariants.{Member as MemberSymbol, Param as ParamSymbol}
use Rattle.swreq_correspondence.specs.Symbols.{Word, Symbols, IsRank, name_of}
use Rattle.swreq_correspondence.specs.Readings.{CanRead, HasName}

-- d is the first associated type with the name A among those of the protocols to which T conforms. Associated types come in the order of
-- their ranks.
pub record IsFirstFor (f : TermFacts) (s : Source) (t : Term) (a : NameId) (d : AssocId) : Type 0 where
  pub proto : ProtoId
  pub declares : Declares f proto a d
  pub conforms : Derivable f s (Requires (Conforms t proto))
  pub first : (q : ProtoId) (e : AssocId) → Declares f q a e → Derivable f s (Requires (Conforms t q)) → d.rank ≤ e.rank

-- The word begins with a word of type T, after which stands `rest`: with a generic parameter, and a symbol `[P:A]` for each member, which
-- is the bound member with the first associated type A of the type before it.
abbrev pub BeginsAs : Symbols → TermFacts → Source → Term → Word → Word → Type 0
BeginsAs m f s (Generic g) rest u = u ≡ ParamSymbol g.depth g.index ∷ rest
BeginsAs m f s (Member t (Bound d)) rest u =
    (k : ℕ) × CanRead m f s t (MemberSymbol k) × IsFirstFor f s t (name_of m k) d × BeginsAs m f s t (MemberSymbol k ∷ rest) u
BeginsAs m f s (Member t (Name a)) rest u = ⊥

-- T is the type of the word.
abbrev pub IsTypeOf : Symbols → TermFacts → Source → Word → Term → Type 0
IsTypeOf m f s u t = BeginsAs m f s t [] u

-- The ranks of associated types and of member symbols go by name first, and an associated type has one name.
pub record AreRanked (m : Symbols) (f : TermFacts) : Type 0 where
  pub one_name : (p : ProtoId) (a : NameId) (q : ProtoId) (b : NameId) (d : AssocId) → Declares f p a d → Declares f q b d → a ≡ b
  pub assocs : (p : ProtoId) (a : NameId) (d : AssocId) (q : ProtoId) (b : NameId) (e : AssocId)
      → Declares f p a d → Declares f q b e → d.rank < e.rank → a.rank ≤ b.rank
  pub symbols : (k j : ℕ) → k < j → IsRank m j → (name_of m k).rank ≤ (name_of m j).rank

-- For each name that a protocol to which T conforms declares, it is told which associated type is the first with that name. An ended
-- completion tells it, by a finite search.
abbrev pub HasFirsts : TermFacts → Source → Type 0
HasFirsts f s = (t : Term) (a : NameId) → HasName f s t a → (d : AssocId) × IsFirstFor f s t a d
