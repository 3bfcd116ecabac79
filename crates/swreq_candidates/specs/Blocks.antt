-- How a word is cut into blocks, from the left. A block is the longest stretch that has a reading, and a symbol that begins no reading is a
-- block by itself.
use Rattle.std.specs.Prelude.{ℕ, List, [], ◌∷◌, ◌++◌}
use Rattle.swreq_canonical.specs.swreq_param.declared.ids.AssocId.{AssocId}
use Rattle.swreq_canonical.specs.swreq_param.declared.ids.ProtoId.{ProtoId}
use Rattle.swreq_canonical.specs.swreq_param.Terms.{Term, self}
use Rattle.swreq_canonical.specs.swreq_derive.Derivation.{TermFacts, Source, Declares}
use Rattle.swreq_canonical.specs.swreq_derive.Inheritance.{LeadsTo}
use Rattle.swreq_canonical.specs.swreq_derive.Derivation.Source.{SelfOf}
use Rattle.swreq_canonical.specs.swreq_word.declared.symbols.Symbol.{Symbol}
use Rattle.swreq_canonical.specs.swreq_word.declared.symbols.Symbol.TheVariants.{Proto as ProtoSymbol, Member as MemberSymbol, Param as ParamSymbol, Name as NameSymbol, Layout as LayoutSymbol}
use Rattle.swreq_canonical.specs.swreq_correspondence.Symbols.{Word, Symbols, IsRank, proto_of, name_of}
use Rattle.swreq_canonical.specs.swreq_correspondence.Readings.{CanRead, CanBegin, HasName, after, first}

-- Where one stands in a word: outside of a block, or inside one that is read over s, up to here as t.
pub data Place : Type 0 where
  Outside : Place
  Inside : (s : Source) (t : Term) → Place

-- the symbol goes on with the block
abbrev pub GoesOn : Symbols → TermFacts → Place → Symbol → Type 0
GoesOn m f Outside x = ⊥
GoesOn m f (Inside s t) x = CanRead m f s t x

-- A block that begins with `[P]` or `[P:A]` is read over [τ_0_0 : P], and one that begins with a generic parameter over the list.
abbrev pub over : Symbols → Source → Symbol → Source
over m s (ProtoSymbol p) = SelfOf (record { rank = p })
over m s (MemberSymbol k) = SelfOf (proto_of m k)
over m s (ParamSymbol d i) = s
over m s (NameSymbol a) = s
over m s LayoutSymbol = s

-- the symbol begins a reading
abbrev pub Opens : Symbols → TermFacts → Source → Symbol → Type 0
Opens m f s x = CanBegin m f (over m s x) x

-- The rest of a word, cut: each symbol goes on with the block if it can, or else opens the next block if it can, or else stands alone.
pub data Cut (m : Symbols) (f : TermFacts) (s : Source) : Place → Word → Type 0 where
  at_end : {o : Place} → Cut m f s o []
  on : {b : Source} {t : Term} {x : Symbol} {w : Word}
      → CanRead m f b t x → Cut m f s (Inside b (after m t x)) w → Cut m f s (Inside b t) (x ∷ w)
  opened : {o : Place} {x : Symbol} {w : Word}
      → (GoesOn m f o x → ⊥) → Opens m f s x → Cut m f s (Inside (over m s x) (first m x)) w → Cut m f s o (x ∷ w)
  alone : {o : Place} {x : Symbol} {w : Word}
      → (GoesOn m f o x → ⊥) → (Opens m f s x → ⊥) → Cut m f s Outside w → Cut m f s o (x ∷ w)

-- what is left of the block in which one stands
abbrev pub current : {m : Symbols} {f : TermFacts} {s : Source} {o : Place} {w : Word} → Cut m f s o w → Word
current at_end = []
current (on {x = x} c r) = x ∷ current r
current (opened n c r) = []
current (alone n c r) = []

-- the blocks after it, which outside of a block are all
abbrev pub blocks : {m : Symbols} {f : TermFacts} {s : Source} {o : Place} {w : Word} → Cut m f s o w → List Word
blocks at_end = []
blocks (on c r) = blocks r
blocks (opened {x = x} n c r) = (x ∷ current r) ∷ blocks r
blocks (alone {x = x} n c r) = (x ∷ []) ∷ blocks r

-- these words one after the other
abbrev pub joined_words : List Word → Word
joined_words [] = []
joined_words (u ∷ us) = u ++ joined_words us

-- In each protocol, `Self` conforms to a protocol that declares the name of a member symbol.
abbrev pub AreMembersNamed : Symbols → TermFacts → Type 0
AreMembersNamed m f = (k : ℕ) → IsRank m k → HasName f (SelfOf (proto_of m k)) self (name_of m k)

-- Each member symbol is of a name that its protocol declares, or a protocol that this one inherits.
abbrev pub AreMembersDeclared : Symbols → TermFacts → Type 0
AreMembersDeclared m f =
    (k : ℕ) → IsRank m k → (p : ProtoId) × (d : AssocId) × LeadsTo f (proto_of m k) p × Declares f p (name_of m k) d
