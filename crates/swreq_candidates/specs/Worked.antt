-- Words and symbols of worked texts. The texts stand in `swreq_derive` and `swreq_canonical`, and other symbols in `swreq_correspondence`.
use Rattle.std.specs.Prelude.{List, [], ◌∷◌}
use Rattle.swreq_canonical.specs.swreq_word.declared.symbols.Symbol.TheVariants.{Proto as ProtoSymbol, Member as MemberSymbol, Name as NameSymbol}
use Rattle.swreq_canonical.specs.swreq_param.Terms.{self}
use Rattle.swreq_canonical.specs.swreq_derive.Derivation.{TermRequirement, TermFacts}
use Rattle.swreq_canonical.specs.swreq_derive.Derivation.TermRequirement.{Conforms, Equals}
use Rattle.swreq_canonical.specs.swreq_derive.Worked.{◌·◌, bound, declared, facts, τ_0_0, τ_0_1, P, Q, A, A_of_P}
use Rattle.swreq_canonical.specs.swreq_correspondence.Symbols.{Symbols, Word}
use Rattle.swreq_canonical.specs.swreq_correspondence.Worked.{first_param, member_of, symbols}
use Rattle.swreq_canonical.specs.Worked.{Base, Derived}

-- ---- words
-- protocol N { associatedtype Next: N }, where `Missing` has the rank 0 and `Next` the rank 1: `T.[N:Next].[N]` and `T.Missing.[N]`

abbrev pub read_word : Word
read_word = first_param ∷ MemberSymbol 0 ∷ ProtoSymbol 0 ∷ []

abbrev pub broken_word : Word
broken_word = first_param ∷ NameSymbol 0 ∷ ProtoSymbol 0 ∷ []

-- ---- symbols
-- protocol P: AnyObject { }

abbrev pub layouts_symbols : Symbols
layouts_symbols = symbols (P ∷ []) [] []

-- protocol Base { }
-- protocol Derived: Base { }

abbrev pub inherited_symbols : Symbols
inherited_symbols = symbols (Base ∷ Derived ∷ []) [] []

-- ---- a requirement that two others imply
-- protocol Q { }
-- protocol P { associatedtype A: Q }
-- func f<T: P, U: Q>() where T.A == U

abbrev pub implied_requirements : List (List TermRequirement)
implied_requirements = (Conforms (self · A) Q ∷ []) ∷ [] ∷ []

abbrev pub implied : TermFacts
implied = facts (declared P A A_of_P ∷ []) implied_requirements

abbrev pub implied_symbols : Symbols
implied_symbols = symbols (P ∷ Q ∷ []) (member_of P A ∷ []) (0 ∷ [])

-- the generators of f without [U : Q]
abbrev pub implied_rest : List TermRequirement
implied_rest = Conforms τ_0_0 P ∷ Equals τ_0_1 (bound τ_0_0 A_of_P) ∷ []
