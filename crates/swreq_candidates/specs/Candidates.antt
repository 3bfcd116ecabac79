-- The candidates of a list: what the rules of its reduced system say.
use Rattle.std.specs.Prelude.{◌≡◌, ◌↔◌, List, [], ◌∷◌, ◌++◌, Contains}
use Rattle.swreq_canonical.specs.swreq_param.declared.ids.NameId.{NameId}
use Rattle.swreq_canonical.specs.swreq_param.declared.ids.Step.TheVariants.{Bound, Name}
use Rattle.swreq_canonical.specs.swreq_param.Terms.{Term}
use Rattle.swreq_canonical.specs.swreq_param.Terms.Term.{Generic, Member}
use Rattle.swreq_canonical.specs.swreq_derive.Derivation.{TermFacts, TermRequirement, Source, Derivable}
use Rattle.swreq_canonical.specs.swreq_derive.Derivation.TermRequirement.{Conforms, IsAnyObject, Equals}
use Rattle.swreq_canonical.specs.swreq_derive.Derivation.TermStatement.{IsValid}
use Rattle.swreq_canonical.specs.swreq_word.declared.symbols.Symbol.{Symbol}
use Rattle.swreq_canonical.specs.swreq_word.declared.symbols.Symbol.TheVariants.{Proto as ProtoSymbol, Member as MemberSymbol, Param as ParamSymbol, Name as NameSymbol, Layout as LayoutSymbol}
use Rattle.swreq_canonical.specs.swreq_word.Least.{IsLeast, IsMinimal}
use Rattle.swreq_canonical.specs.CanonicalOrder.{IsStrictlySorted}
use Rattle.swreq_canonical.specs.swreq_correspondence.Symbols.{Word, Symbols, IsRank, name_of}
use Rattle.swreq_canonical.specs.swreq_correspondence.Equations.{AreCongruent}
use Rattle.swreq_canonical.specs.swreq_correspondence.Types.{IsFirstFor, IsTypeOf}

-- This is a rule of the reduced system of the class: its left side is minimal, and its right side the least word of the left side's class.
abbrev pub IsReducedRule : (Word → Word → Type 0) → Word → Word → Type 0
IsReducedRule Class l r = IsMinimal Class l × Class l r × IsLeast Class r

-- the symbol is that of a member with this name, or the name itself
abbrev pub IsNamed : Symbols → Symbol → NameId → Type 0
IsNamed m (MemberSymbol k) a = IsRank m k × (name_of m k ≡ a)
IsNamed m (NameSymbol b) a = record { rank = b } ≡ a
IsNamed m _ a = ⊥

-- The left side is the generic parameter V alone, or `u·[P:A]` or `u·A`, where V is the bound member A of the type of u with the least
-- associated type that is valid there.
abbrev pub SpeaksOf : Symbols → TermFacts → Source → Term → Word → Type 0
SpeaksOf m f s (Generic g) l = l ≡ ParamSymbol g.depth g.index ∷ []
SpeaksOf m f s (Member t (Bound d)) l =
    (u : Word) × (x : Symbol) × (a : NameId) × (l ≡ u ++ x ∷ []) × IsTypeOf m f s u t × IsNamed m x a × IsFirstFor f s t a d
SpeaksOf m f s (Member t (Name a)) l = ⊥

-- What a rule says: `u·[P] => u` says [R : P] and `u·[layout: AnyObject] => u` says [R : AnyObject], where R is the type of u; a rule
-- whose left side speaks of V says [U == V], where U is the type of the right side, unless they are the same. The sides are valid type
-- parameters.
abbrev pub IsReadOff : Symbols → TermFacts → Source → Word → Word → TermRequirement → Type 0
IsReadOff m f s l r (Conforms t p) = Derivable f s (IsValid t) × IsTypeOf m f s r t × (l ≡ r ++ ProtoSymbol p.rank ∷ [])
IsReadOff m f s l r (IsAnyObject t) = Derivable f s (IsValid t) × IsTypeOf m f s r t × (l ≡ r ++ LayoutSymbol ∷ [])
IsReadOff m f s l r (Equals u v) =
    Derivable f s (IsValid u) × Derivable f s (IsValid v) × (u ≡ v → ⊥) × IsTypeOf m f s r u × SpeaksOf m f s v l

-- A candidate is read off a rule of the reduced system.
abbrev pub IsCandidate : Symbols → TermFacts → Source → TermRequirement → Type 0
IsCandidate m f s q = (l r : Word) × IsReducedRule (AreCongruent m f s) l r × IsReadOff m f s l r q

-- The list of candidates is the strictly sorted list whose members are exactly the candidates.
pub record IsCandidateList (m : Symbols) (f : TermFacts) (s : Source) (candidates : List TermRequirement) : Type 0 where
  pub sorted : IsStrictlySorted candidates
  pub members : (r : TermRequirement) → Contains candidates r ↔ IsCandidate m f s r
