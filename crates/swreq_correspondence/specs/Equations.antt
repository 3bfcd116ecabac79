-- The equations of a text, and congruence under them.
use Rattle.std.specs.Prelude.{◌≡◌, ℕ, [], ◌∷◌, ◌++◌, Contains}
use Rattle.swreq_derive.specs.swreq_param.declared.ids.ProtoId.{ProtoId}
use Rattle.swreq_derive.specs.swreq_param.Terms.{self}
use Rattle.swreq_word.specs.declared.symbols.Symbol.{Symbol}
use Rattle.swreq_word.specs.declared.symbols.Symbol.TheVariants.{Proto as ProtoSymbol, Member as MemberSymbol, Name as NameSymbol}
use Rattle.swreq_word.specs.Relations.{Chain}
use Rattle.swreq_derive.specs.Derivation.{TermRequirement, TermFacts, Source, HasRequirement}
use Rattle.swreq_derive.specs.Derivation.Source.{Written, SelfOf}
use Rattle.swreq_derive.specs.Derivation.TermRequirement.{Conforms}
use Rattle.swreq_derive.specs.WellFormed.{IsUsable, IsUsableOf}
use Rattle.swreq_correspondence.specs.Symbols.{Word, Symbols, IsOfText, IsRank, proto_of, name_of, left_side, right_side}

-- What a source itself gives: a written list those of its members that are chosen, and [τ_0_0 : P] its one member.
abbrev pub Gives : (TermRequirement → Type 0) → Source → TermRequirement → Type 0
Gives Own (Written gs rs) r = Own r
Gives Own (SelfOf p) r = r ≡ Conforms self p

-- The basic equations, `[P][P] = [P]` and `[P]·A = [P:A]`, those of the chosen requirements of protocols, and those of the chosen members
-- of the source.
pub data Equation (m : Symbols) (Of : ProtoId → TermRequirement → Type 0) (Own : TermRequirement → Type 0) (s : Source)
    : Word → Word → Type 0 where
  twice : (p : ProtoId) → IsOfText m p → Equation m Of Own s (ProtoSymbol p.rank ∷ ProtoSymbol p.rank ∷ []) (ProtoSymbol p.rank ∷ [])
  member : (k : ℕ) → IsRank m k
      → Equation m Of Own s (ProtoSymbol (proto_of m k).rank ∷ NameSymbol (name_of m k).rank ∷ []) (MemberSymbol k ∷ [])
  of_protocol : (p : ProtoId) (r : TermRequirement) → Of p r → Equation m Of Own s (left_side m (SelfOf p) r) (right_side m (SelfOf p) r)
  of_source : (r : TermRequirement) → Gives Own s r → Equation m Of Own s (left_side m s r) (right_side m s r)

-- One side of an equation is put in place of the other, at one place.
pub data Link (E : Word → Word → Type 0) : Word → Word → Type 0 where
  forth : {l r : Word} (after : Word) → E l r → Link E (l ++ after) (r ++ after)
  back : {l r : Word} (after : Word) → E l r → Link E (r ++ after) (l ++ after)
  there : {u v : Word} (x : Symbol) → Link E u v → Link E (x ∷ u) (x ∷ v)

-- a chain of links leads from one word to the other
abbrev pub Linking : (Word → Word → Type 0) → Word → Word → Type 0
Linking E = Chain (Link E)

-- the usable requirements of a protocol, and of a list
abbrev pub UsableOf : TermFacts → ProtoId → TermRequirement → Type 0
UsableOf f p r = Contains (f.of_protocol p) r × IsUsableOf f p r

abbrev pub UsableIn : TermFacts → Source → TermRequirement → Type 0
UsableIn f s r = HasRequirement s r × IsUsable f s r

-- the equations of the usable requirements of the protocols and of the source
abbrev pub UsableEquation : Symbols → TermFacts → Source → Word → Word → Type 0
UsableEquation m f s = Equation m (UsableOf f) (UsableIn f s) s

-- two words are congruent under them
abbrev pub AreCongruent : Symbols → TermFacts → Source → Word → Word → Type 0
AreCongruent m f s = Linking (UsableEquation m f s)
