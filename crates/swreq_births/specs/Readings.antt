-- What lines say of type parameters with their words, and of words with one another.
use Rattle.std.specs.Prelude.{List}
use Rattle.swreq_param.specs.{declared.ids.TermId.{TermId}, Tables.{IsOf, term_at}, Terms.{Term}}
use Rattle.swreq_correspondence.specs.swreq_word.declared.symbols.Symbol.{Symbol, TheVariants.{Layout, Proto}}
use Rattle.swreq_correspondence.specs.swreq_derive.Derivation.{TermRequirement, TermRequirement.{Conforms, IsAnyObject}}
use Rattle.swreq_derivation.specs.declared.{derivation.Derivation.{Derivation}, statements.Bound.{Bound}}
use Rattle.swreq_derivation.specs.{declared.statements.Bound.TheVariants.{AnyObject, Protocol}, UnderWay.{AreStatedEqual}}
use Rattle.swreq_readings.specs.declared.{alphabet.Alphabet.{Alphabet}, putting.Sides.{Sides}}
use Rattle.swreq_readings.specs.Readable.{AllowsWord, ReadsAlike, read_word}

-- the symbol of a protocol, or that of `AnyObject`
abbrev pub symbol_of : Bound → Symbol
symbol_of (Protocol p) = Proto p.rank
symbol_of AnyObject = Layout

-- the requirement that the type parameter conforms to the bound
abbrev pub bound_by : Bound → Term → TermRequirement
bound_by (Protocol p) t = Conforms t p
bound_by AnyObject t = IsAnyObject t

-- Lines allow the word after T, and state that the type parameter of the id equals what the word is read as.
pub record IsReadBy (g : Alphabet) (s : Derivation) (t u : TermId) (w : List Symbol) : Type 0 where
  pub id : IsOf s.table u
  pub word : AllowsWord g s (term_at s.table t) w
  pub equal : AreStatedEqual s (term_at s.table u) (read_word g (term_at s.table t) w)

-- Two words are read alike after T, and each of them with the word that it reduces to.
pub record AreReadEqualToEnds (g : Alphabet) (s : Derivation) (t : TermId) (words ends : Sides) : Type 0 where
  pub subject : IsOf s.table t
  pub both : ReadsAlike g s s t words.from.now words.to.now
  pub first : ReadsAlike g s s t words.from.now ends.from.now
  pub last : ReadsAlike g s s t words.to.now ends.to.now

-- Lines allow the word after T.
pub record IsAllowed (g : Alphabet) (s : Derivation) (t : TermId) (w : List Symbol) : Type 0 where
  pub subject : IsOf s.table t
  pub word : AllowsWord g s (term_at s.table t) w

-- The two words are read alike after T.
pub record AreAlike (g : Alphabet) (s : Derivation) (t : TermId) (u v : List Symbol) : Type 0 where
  pub subject : IsOf s.table t
  pub both : ReadsAlike g s s t u v
