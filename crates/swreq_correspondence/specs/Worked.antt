-- The symbols of worked texts. Their facts and lists stand in `swreq_derive`; a member name has its symbols in the order of the protocols
-- that inherit more, and then of their names.
use Rattle.std.specs.Prelude.{ℕ, List, [], ◌∷◌, get_or}
use Rattle.swreq_derive.specs.swreq_param.declared.ids.AssocId.{AssocId}
use Rattle.swreq_derive.specs.swreq_param.declared.ids.NameId.{NameId}
use Rattle.swreq_derive.specs.swreq_param.declared.ids.ProtoId.{ProtoId}
use Rattle.swreq_derive.specs.swreq_param.Terms.{self}
use Rattle.swreq_word.specs.declared.symbols.Symbol.{Symbol}
use Rattle.swreq_word.specs.declared.symbols.Symbol.TheVariants.{Param as ParamSymbol}
use Rattle.swreq_derive.specs.Derivation.{TermRequirement, TermFacts}
use Rattle.swreq_derive.specs.Derivation.TermRequirement.{Conforms}
use Rattle.swreq_derive.specs.Worked.{protocol, assoc, declared, facts, τ_0_0, N, Next, P, Q, A, B, Early, Late}
use Rattle.swreq_correspondence.specs.Symbols.{MemberName, Symbols}

-- the symbol of the generic parameter τ_0_0, and that of τ_0_1
abbrev pub first_param : Symbol
first_param = ParamSymbol 0 0

abbrev pub second_param : Symbol
second_param = ParamSymbol 0 1

abbrev pub member_of : ProtoId → NameId → MemberName
member_of p a = record { proto = p; name = a }

-- these protocols and member names, and for each associated type, by rank, the rank of its symbol
abbrev pub symbols : List ProtoId → List MemberName → List ℕ → Symbols
symbols ps ms ranks = record { protocols = ps; members = ms; rank_of = λ d. get_or ranks d.rank 0 }

abbrev pub endless_symbols : Symbols
endless_symbols = symbols (N ∷ []) (member_of N Next ∷ []) (0 ∷ [])

abbrev pub shared_symbols : Symbols
shared_symbols = symbols (P ∷ Q ∷ []) (member_of P A ∷ member_of Q A ∷ []) (0 ∷ 1 ∷ [])

abbrev pub redeclared_symbols : Symbols
redeclared_symbols = symbols (Late ∷ Early ∷ []) (member_of Early Next ∷ member_of Late Next ∷ []) (1 ∷ 0 ∷ [])

abbrev pub looped_symbols : Symbols
looped_symbols = symbols (P ∷ []) (member_of P B ∷ []) (0 ∷ [])

abbrev pub circular_symbols : Symbols
circular_symbols = symbols (P ∷ Q ∷ []) (member_of P A ∷ member_of Q B ∷ []) (0 ∷ 1 ∷ [])

-- ---- a member name that is inherited
-- protocol Base { associatedtype A }
-- protocol Derived: Base { }
-- func f<T: Derived>()

abbrev pub Base : ProtoId
Base = protocol 0

abbrev pub Derived : ProtoId
Derived = protocol 1

abbrev pub A_of_Base : AssocId
A_of_Base = assoc 0

abbrev pub inherited_requirements : List (List TermRequirement)
inherited_requirements = [] ∷ (Conforms self Base ∷ []) ∷ []

abbrev pub inherited : TermFacts
inherited = facts (declared Base A A_of_Base ∷ []) inherited_requirements

abbrev pub inherited_f : List TermRequirement
inherited_f = Conforms τ_0_0 Derived ∷ []

abbrev pub inherited_symbols : Symbols
inherited_symbols = symbols (Base ∷ Derived ∷ []) (member_of Derived A ∷ member_of Base A ∷ []) (1 ∷ [])
