-- What is answered of type parameters together with whether they are valid.
use Rattle.std.specs.Prelude.{◌↔◌, ◌⊎◌, ◌<◌, ℕ, Bool, IsTrue, Option, Some, None}
use Rattle.swreq_valid.specs.swreq_param.Terms.{Term}
use Rattle.swreq_valid.specs.swreq_derive.Derivation.{TermRequirement, TermStatement}
use Rattle.swreq_valid.specs.swreq_derive.Derivation.TermRequirement.{Conforms, Equals, IsAnyObject}
use Rattle.swreq_valid.specs.swreq_derive.Derivation.TermStatement.{IsValid, Requires}
use Rattle.swreq_map.specs.swreq_word.declared.symbols.Symbol.{Symbol}
use Rattle.swreq_map.specs.swreq_word.declared.symbols.Symbol.TheVariants as symbols
use Rattle.swreq_machine.specs.declared.having.Property.{Property}
use Rattle.swreq_machine.specs.declared.having.Property.TheVariants.{Protocol, Layout}

-- that T has the property: [T : P] or [T : AnyObject]
abbrev pub has : Term → Property → TermRequirement
has t (Protocol p) = Conforms t p
has t Layout = IsAnyObject t

-- the symbol that vanishes after the words of the type parameters that have it
abbrev pub symbol_of : Property → Symbol
symbol_of (Protocol p) = symbols.Proto p.rank
symbol_of Layout = symbols.Layout

-- The protocol of the property, if it is of one, is below this number.
abbrev pub IsBelow : ℕ → Property → Type 0
IsBelow protocols (Protocol p) = p.rank < protocols
IsBelow protocols Layout = Unit {0}

-- None where T is not valid, and otherwise whether it has the property
abbrev pub TellsIfHas : (TermStatement → Type 0) → Term → Property → Option Bool → Type 0
TellsIfHas derivable t property None = derivable (IsValid t) → ⊥
TellsIfHas derivable t property (Some b) = derivable (IsValid t) × (IsTrue b ↔ derivable (Requires (has t property)))

-- None where T or U is not valid, and else whether they are equal
abbrev pub TellsIfEqual : (TermStatement → Type 0) → Term → Term → Option Bool → Type 0
TellsIfEqual derivable t u None = (derivable (IsValid t) → ⊥) ⊎ (derivable (IsValid u) → ⊥)
TellsIfEqual derivable t u (Some b) = derivable (IsValid t) × derivable (IsValid u) × (IsTrue b ↔ derivable (Requires (Equals t u)))
