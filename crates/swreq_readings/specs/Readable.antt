-- How a word is read after a type parameter, and when lines allow it.
--
-- A generic parameter is read as itself after any type parameter, and the rest of the word is read after it. So a word that begins with one
-- is read as the same type parameter after every type parameter.
use Rattle.std.specs.Prelude.{◌≡◌, ◌<◌, ℕ, List, [], ◌∷◌, Some, length, slice_get, Contains}
use Rattle.swreq_derive.specs.swreq_param.declared.ids.{NameId.{NameId}, ProtoId.{ProtoId}, Step.{Step}}
use Rattle.swreq_derive.specs.swreq_param.declared.ids.{Step.TheVariants.{Bound, Name as NameStep}, TermId.{TermId}}
use Rattle.swreq_derive.specs.swreq_param.{Tables.{IsOf, term_at}, Terms.{Term, Term.{Generic, Member as MemberOf}}}
use Rattle.swreq_derive.specs.{Derivation.{TermRequirement.{Conforms, IsAnyObject}, TermStatement.{Requires}}, Facts.{generic_params}}
use Rattle.swreq_word.specs.declared.symbols.Symbol.{Symbol, TheVariants.{Proto, Member, Param, Name, Layout}}
use Rattle.swreq_derivation.specs.declared.derivation.Derivation.{Derivation}
use Rattle.swreq_derivation.specs.UnderWay.{AreEqualIds, AreStatedEqual, States}
use Rattle.swreq_readings.specs.declared.alphabet.Alphabet.{Alphabet}
use Rattle.swreq_readings.specs.Alphabets.{IsDeclared, lexicon, member_at}
use Rattle.swreq_world.specs.swreq_lexicon.declared.pair.ProtocolName.{ProtocolName}

-- the type parameter that a symbol after t is read as
abbrev pub read_symbol : Alphabet → Term → Symbol → Term
read_symbol g t (Proto q) = t
read_symbol g t (Member k) = MemberOf t (NameStep (member_at g k).name)
read_symbol g t (Param d i) = Generic (record { depth = d; index = i })
read_symbol g t (Name a) = MemberOf t (NameStep (record { rank = a }))
read_symbol g t Layout = t

-- the type parameter that a word after t is read as
abbrev pub read_word : Alphabet → Term → List Symbol → Term
read_word g t [] = t
read_word g t (x ∷ w) = read_word g (read_symbol g t x) w

-- It is an id of the table, and stands for what the symbol after t is read as.
abbrev pub IsIdAfter : Alphabet → Derivation → TermId → Symbol → TermId → Type 0
IsIdAfter g s t x v = IsOf s.table v × (term_at s.table v ≡ read_symbol g (term_at s.table t) x)

-- A line states that t conforms to a protocol that declares the name.
abbrev pub AllowsName : Alphabet → Derivation → Term → NameId → Type 0
AllowsName g s t a = (p : ProtoId) × IsDeclared g p a × States s (Requires (Conforms t p))

-- The step names the associated type with this rank.
abbrev pub IsOfStep : Step → ℕ → ProtocolName → Type 0
IsOfStep (NameStep a) k n = n.name ≡ a
IsOfStep (Bound d) k n = d.rank ≡ k

-- The step names the associated type with this rank, and a line states that t conforms to its protocol.
abbrev pub IsGivenAt : Alphabet → Derivation → Term → Step → ℕ → ProtocolName → Type 0
IsGivenAt g s t x k n = (slice_get (lexicon g).associated k ≡ Some n) × IsOfStep x k n × States s (Requires (Conforms t n.proto))

abbrev pub IsGiven : Alphabet → Derivation → Term → Step → ProtocolName → Type 0
IsGiven g s t x n = (k : ℕ) × IsGivenAt g s t x k n

-- Lines allow the symbol after t.
abbrev pub AllowsSymbol : Alphabet → Derivation → Term → Symbol → Type 0
AllowsSymbol g s t (Proto q) = States s (Requires (Conforms t (record { rank = q })))
AllowsSymbol g s t (Member k) = (k < length (lexicon g).symbols) × States s (Requires (Conforms t (member_at g k).proto)) × AllowsName g s t
    (member_at g k).name
AllowsSymbol g s t (Param d i) = Contains (generic_params g.params) (record { depth = d; index = i })
AllowsSymbol g s t (Name a) = AllowsName g s t (record { rank = a })
AllowsSymbol g s t Layout = States s (Requires (IsAnyObject t))

-- Lines allow the symbol after T, and T and U are equal. The ids stand for what the symbol is read as after T and after U.
pub record CanCarry (g : Alphabet) (s : Derivation) (t u : TermId) (x : Symbol) (m : TermId × TermId) : Type 0 where
  pub symbol : AllowsSymbol g s (term_at s.table t) x
  pub equal : AreEqualIds s t u
  pub first : IsIdAfter g s t x m.0
  pub second : IsIdAfter g s u x m.1

-- Lines allow the word after t: each symbol is allowed after what the symbols before it are read as.
abbrev pub AllowsWord : Alphabet → Derivation → Term → List Symbol → Type 0
AllowsWord g s t [] = Unit {0}
AllowsWord g s t (x ∷ w) = AllowsSymbol g s t x × AllowsWord g s (read_symbol g t x) w

-- The two words are read alike after t: lines allow both, and state that they are read as equal type parameters.
pub record AreReadEqual (g : Alphabet) (s : Derivation) (t : Term) (u v : List Symbol) : Type 0 where
  pub left : AllowsWord g s t u
  pub right : AllowsWord g s t v
  pub equal : AreStatedEqual s (read_word g t u) (read_word g t v)

-- The two words are read alike after what the id stood for.
abbrev pub ReadsAlike : Alphabet → Derivation → Derivation → TermId → List Symbol → List Symbol → Type 0
ReadsAlike g old s t u v = AreReadEqual g s (term_at old.table t) u v

-- Lines allow the word after t, and the id stands for what it is read as.
abbrev pub IsReadAs : Alphabet → Derivation → Term → List Symbol → TermId → Type 0
IsReadAs g s t w u = IsOf s.table u × AllowsWord g s t w × (term_at s.table u ≡ read_word g t w)

-- Lines allow the word after what U stood for. The ids are equal, and stand for what the word is read as after T and after U.
pub record IsCarried (g : Alphabet) (old new : Derivation) (t u : TermId) (w : List Symbol) (m : TermId × TermId) : Type 0 where
  pub word : AllowsWord g new (term_at old.table u) w
  pub first : term_at new.table m.0 ≡ read_word g (term_at old.table t) w
  pub second : term_at new.table m.1 ≡ read_word g (term_at old.table u) w
  pub equal : AreEqualIds new m.0 m.1
