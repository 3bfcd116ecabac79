-- What a requirement of a list is stated from.
use Rattle.std.specs.Prelude.{◌≡◌, ◌++◌, [], ◌∷◌, List, MatchOption, None, Option}
use Rattle.swreq_machine.specs.swreq_param.{Owned.{as_term}, Tables.{IsOf, term_at}, Terms.{Term, Term.{Generic, Member}}}
use Rattle.swreq_machine.specs.swreq_param.declared.{ids.{Step.{Step}, TermId.{TermId}}, owned.TypeParam.{TypeParam}}
use Rattle.swreq_machine.specs.swreq_derive.Derivation.{TermRequirement, TermRequirement.{Conforms, IsAnyObject}}
use Rattle.swreq_machine.specs.{swreq_rule.declared.rules.Rule.{Rule}, swreq_complete.Alike.{ReduceAlike}}
use Rattle.swreq_readings.specs.swreq_word.declared.symbols.Symbol.{Symbol, TheVariants.{Layout, Proto}}
use Rattle.swreq_readings.specs.{declared.alphabet.Alphabet.{Alphabet}, Readable.{AllowsWord, read_word}}
use Rattle.swreq_derivation.specs.declared.{derivation.Derivation.{Derivation}, statements.Bound.{Bound, TheVariants.{AnyObject, Protocol}}}
use Rattle.swreq_derivation.specs.UnderWay.{AreStatedEqual}
use Rattle.swreq_births.specs.{declared.history.OwnedRequirement.{OwnedRequirement}, Systems.{HasShownSides, IsShown, rules_at}}
use Rattle.swreq_births.specs.Unfolding.{AllowsScope}
use Rattle.swreq_explain.specs.declared.validity.{RoundReader.{RoundReader}, ReadAs.{ReadAs}, WordOfType.{WordOfType}}

abbrev pub alphabet_at : RoundReader → Alphabet
alphabet_at d = d.history.now.alphabet

-- the rules of the system, which show what is stated
abbrev pub rules_of : RoundReader → List Rule
rules_of d = rules_at d.history.now d.system

-- The history has the system, and the type parameter after which words are read is of the derivation's table.
abbrev pub IsReady : RoundReader → Derivation → Type 0
IsReady d s = AllowsScope d.history.now s (record { system = d.system; owner = None; for_self = d.t })

-- They are the type parameter without its last step, and that step, or there are none for a generic parameter.
abbrev pub IsSplitOf : TypeParam → Option (TypeParam × Step) → Type 0
IsSplitOf t o = MatchOption o (as_term t ≡ Generic t.head) (λ b. as_term t ≡ Member (as_term b.0) b.1)

-- The rules show that the type parameter is valid over the list, and this is its word.
abbrev pub IsWordOf : RoundReader → WordOfType → Type 0
IsWordOf d x = IsShown (alphabet_at d) None (rules_of d) (as_term x.param.now) x.word.now

-- The history has the system, T is of the derivation's table, and the rules show that the type parameter is valid. This is its word.
pub record CanRead (d : RoundReader) (s : Derivation) (x : WordOfType) : Type 0 where
  pub ready : IsReady d s
  pub word : IsWordOf d x

-- Both type parameters can be read, and the rules reduce their words to one word.
pub record CanEquate (d : RoundReader) (s : Derivation) (x y : WordOfType) : Type 0 where
  pub left : CanRead d s x
  pub right : CanRead d s y
  pub alike : ReduceAlike (rules_of d) y.word.now x.word.now

-- The rules show the type parameters of the requirement valid, and reduce its sides to one word.
pub record CanState (d : RoundReader) (s : Derivation) (q : OwnedRequirement) (left right : List Symbol) : Type 0 where
  pub ready : IsReady d s
  pub sides : HasShownSides (alphabet_at d) None (rules_of d) q left right
  pub alike : ReduceAlike (rules_of d) right left

-- the requirement that the type parameter conforms to the bound, and the symbol of the bound
abbrev pub bounded : Bound → Term → TermRequirement
bounded (Protocol p) t = Conforms t p
bounded AnyObject t = IsAnyObject t

abbrev pub symbol_of : Bound → Symbol
symbol_of (Protocol p) = Proto p.rank
symbol_of AnyObject = Layout

-- The rules reduce the word of the type parameter, and that word with the symbol after it, to one word.
abbrev pub Vanishes : RoundReader → WordOfType → Symbol → List Symbol → Type 0
Vanishes d x y longer = (longer ≡ x.word.now ++ y ∷ []) × ReduceAlike (rules_of d) x.word.now longer

-- A line states that the type parameter equals the one that its word is read as after T, and these are the ids of the two.
pub record IsReadAt (d : RoundReader) (x : WordOfType) (t : Term) (s : Derivation) (r : ReadAs) : Type 0 where
  pub itself_of : IsOf s.table r.itself
  pub word_of : IsOf s.table r.word
  pub itself : term_at s.table r.itself ≡ as_term x.param.now
  pub word : term_at s.table r.word ≡ read_word (alphabet_at d) t x.word.now
  pub says : AllowsWord (alphabet_at d) s t x.word.now
  pub equal : AreStatedEqual s (as_term x.param.now) (read_word (alphabet_at d) t x.word.now)

-- These are the ids of the two type parameters, and a line states that they are equal, unless they are identical.
pub record AreEquated (x y : WordOfType) (s : Derivation) (r : TermId × TermId) : Type 0 where
  pub ids : IsOf s.table r.0 × IsOf s.table r.1
  pub first : term_at s.table r.0 ≡ as_term x.param.now
  pub last : term_at s.table r.1 ≡ as_term y.param.now
  pub equal : AreStatedEqual s (as_term x.param.now) (as_term y.param.now)
