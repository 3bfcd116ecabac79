-- How a word is read as a type parameter, from the left.
use Rattle.std.specs.Prelude.{◌≡◌, [], ◌∷◌}
use Rattle.swreq_derive.specs.swreq_param.declared.ids.AssocId.{AssocId}
use Rattle.swreq_derive.specs.swreq_param.declared.ids.NameId.{NameId}
use Rattle.swreq_derive.specs.swreq_param.declared.ids.ProtoId.{ProtoId}
use Rattle.swreq_derive.specs.swreq_param.declared.ids.Step.TheVariants.{Name}
use Rattle.swreq_derive.specs.swreq_param.Terms.{Term, self}
use Rattle.swreq_derive.specs.swreq_param.Terms.Term.{Generic, Member}
use Rattle.swreq_word.specs.declared.symbols.Symbol.{Symbol}
use Rattle.swreq_word.specs.declared.symbols.Symbol.TheVariants.{Proto as ProtoSymbol, Member as MemberSymbol, Param as ParamSymbol, Name as NameSymbol, Layout as LayoutSymbol}
use Rattle.swreq_derive.specs.Derivation.{TermFacts, Source, Declares, Derivable, HasParam}
use Rattle.swreq_derive.specs.Derivation.Source.{Written, SelfOf}
use Rattle.swreq_derive.specs.Derivation.TermRequirement.{Conforms, IsAnyObject}
use Rattle.swreq_derive.specs.Derivation.TermStatement.{Requires}
use Rattle.swreq_correspondence.specs.Symbols.{Word, Symbols, IsRank, proto_of, name_of}

-- t conforms to a protocol that declares the name
abbrev pub HasName : TermFacts → Source → Term → NameId → Type 0
HasName f s t a = (p : ProtoId) × (d : AssocId) × Derivable f s (Requires (Conforms t p)) × Declares f p a d

-- The symbol can be read after a word that is read as t.
abbrev pub CanRead : Symbols → TermFacts → Source → Term → Symbol → Type 0
CanRead m f s t (ProtoSymbol q) = Derivable f s (Requires (Conforms t (record { rank = q })))
CanRead m f s t (MemberSymbol k) = IsRank m k × Derivable f s (Requires (Conforms t (proto_of m k))) × HasName f s t (name_of m k)
CanRead m f s t (ParamSymbol d i) = ⊥
CanRead m f s t (NameSymbol a) = HasName f s t (record { rank = a })
CanRead m f s t LayoutSymbol = Derivable f s (Requires (IsAnyObject t))

-- what the longer word is then read as
abbrev pub after : Symbols → Term → Symbol → Term
after m t (ProtoSymbol q) = t
after m t (MemberSymbol k) = Member t (Name (name_of m k))
after m t (ParamSymbol d i) = t
after m t (NameSymbol a) = Member t (Name (record { rank = a }))
after m t LayoutSymbol = t

abbrev pub CanReadAll : Symbols → TermFacts → Source → Term → Word → Type 0
CanReadAll m f s t [] = Unit {0}
CanReadAll m f s t (x ∷ u) = CanRead m f s t x × CanReadAll m f s (after m t x) u

abbrev pub read_on : Symbols → Term → Word → Term
read_on m t [] = t
read_on m t (x ∷ u) = read_on m (after m t x) u

-- A word over a list begins with a generic parameter of the list, and a word over [τ_0_0 : P] with `[P]` or `[P:A]`.
abbrev pub CanBegin : Symbols → TermFacts → Source → Symbol → Type 0
CanBegin m f (Written gs rs) (ParamSymbol d i) = HasParam (Written gs rs) (record { depth = d; index = i })
CanBegin m f (SelfOf p) (ProtoSymbol q) = record { rank = q } ≡ p
CanBegin m f (SelfOf p) (MemberSymbol k) = (proto_of m k ≡ p) × IsRank m k × HasName f (SelfOf p) self (name_of m k)
CanBegin m f _ _ = ⊥

abbrev pub first : Symbols → Symbol → Term
first m (ParamSymbol d i) = Generic (record { depth = d; index = i })
first m (MemberSymbol k) = Member self (Name (name_of m k))
first m _ = self

-- the word has a reading
abbrev pub HasReading : Symbols → TermFacts → Source → Word → Type 0
HasReading m f s [] = ⊥
HasReading m f s (x ∷ u) = CanBegin m f s x × CanReadAll m f s (first m x) u

-- the type parameter that it is read as
abbrev pub reading : Symbols → Word → Term
reading m [] = self
reading m (x ∷ u) = read_on m (first m x) u
