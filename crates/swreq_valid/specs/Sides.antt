-- The sides of written requirements, and the first one that is no type parameter.
use Rattle.std.specs.Prelude.{◌≡◌, ℕ, List, [], ◌∷◌, ◌++◌, Contains}
use Rattle.swreq_rounds.specs.swreq_param.declared.ids.ProtoId.{ProtoId}
use Rattle.swreq_rounds.specs.swreq_param.Terms.{Term}
use Rattle.swreq_rounds.specs.swreq_derive.Derivation.{Derivable, Source, TermFacts, TermRequirement}
use Rattle.swreq_rounds.specs.swreq_derive.declared.known.Params.{Params}
use Rattle.swreq_rounds.specs.swreq_derive.Derivation.Source.{SelfOf, Written as WrittenList}
use Rattle.swreq_rounds.specs.swreq_derive.Facts.{generic_params}
use Rattle.swreq_rounds.specs.swreq_derive.Derivation.TermRequirement.{Conforms, IsAnyObject, Equals}
use Rattle.swreq_rounds.specs.swreq_derive.Derivation.TermStatement.{IsValid}
use Rattle.swreq_complete.specs.swreq_rule.declared.rules.Rule.{Rule}
use Rattle.swreq_rounds.specs.swreq_correspondence.Shown.{ShowsValid}
use Rattle.swreq_rounds.specs.swreq_correspondence.Symbols.{Symbols}
use Rattle.swreq_world.specs.swreq_lowering.declared.ids.Written.{Written}
use Rattle.swreq_world.specs.swreq_lowering.ByTable.{placed}
use Rattle.swreq_world.specs.swreq_lowering.Requirements.{PlacedRequirement}
use Rattle.swreq_world.specs.Worlds.{TextWorld, requirements_of}
use Rattle.swreq_symbols.specs.Meaning.{facts_of, symbols_of}
use Rattle.swreq_symbols.specs.Vanishing.{Links}
use Rattle.swreq_valid.specs.Plans.{bare, listed}

-- A type parameter where it is written, and the source over which it is read.
pub record Side : Type 0 where
  pub source : Source
  pub term : Term
  pub at : ℕ

-- the sides of a requirement, the left one first
abbrev pub sides_at : Source → TermRequirement → ℕ → ℕ → List Side
sides_at s (Conforms t p) left right = record { source = s; term = t; at = left } ∷ []
sides_at s (IsAnyObject t) left right = record { source = s; term = t; at = left } ∷ []
sides_at s (Equals t u) left right = record { source = s; term = t; at = left } ∷ record { source = s; term = u; at = right } ∷ []

abbrev pub sides_of : Source → PlacedRequirement → List Side
sides_of s r = sides_at s r.requirement r.left_at r.right_at

-- the sides of a list, in order
abbrev pub sides : Source → List PlacedRequirement → List Side
sides s [] = []
sides s (r ∷ rs) = sides_of s r ++ sides s rs

-- the sides of the requirements of these protocols, in order
abbrev pub sides_in : TextWorld → List ProtoId → List Side
sides_in w [] = []
sides_in w (p ∷ ps) = sides (SelfOf p) (requirements_of w p) ++ sides_in w ps

-- the sides of all protocols, in written order
abbrev pub protocol_sides : TextWorld → List Side
protocol_sides w = sides_in w w.lexicon.written_order

-- the sides of a list with these generic parameters, over the ids of a table
abbrev pub list_sides : List Term → Params → List Written → List Side
list_sides terms params written = sides (WrittenList (generic_params params) (listed terms (bare written))) (placed terms written)

-- ---- valid sides

-- The side is a type parameter: it is derivable from its source.
abbrev pub IsValidSide : TermFacts → Side → Type 0
IsValidSide f s = Derivable f s.source (IsValid s.term)

-- The rules show the side valid.
abbrev pub IsShownSide : Symbols → TermFacts → List Rule → Side → Type 0
IsShownSide m f rules s = ShowsValid m f s.source (Links rules) s.term

-- The rules show the side valid, over a text.
abbrev pub IsShownIn : TextWorld → List Rule → Side → Type 0
IsShownIn w rules = IsShownSide (symbols_of w.lexicon) (facts_of w) rules

-- P holds of each side.
abbrev pub HoldsOfEach : (Side → Type 0) → List Side → Type 0
HoldsOfEach P all = (s : Side) → Contains all s → P s

-- The side at this place is the first of which P does not hold.
pub record FailsFirst (P : Side → Type 0) (all : List Side) (at : ℕ) : Type 0 where
  pub before : List Side
  pub side : Side
  pub after : List Side
  pub split : all ≡ before ++ (side ∷ after)
  pub earlier : HoldsOfEach P before
  pub fails : P side → ⊥
  pub at_is : side.at ≡ at
