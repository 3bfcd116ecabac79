-- What the rounds of a machine start from.
use Rattle.std.specs.Prelude.{List, ◌++◌, map}
use Rattle.swreq_complete.specs.swreq_word.Relations.{Linked}
use Rattle.swreq_complete.specs.swreq_rule.declared.rules.Rule.{Rule}
use Rattle.swreq_complete.specs.swreq_rule.Steps.{Step}
use Rattle.swreq_complete.specs.Alike.{ReduceAlike}
use Rattle.swreq_correspondence.specs.swreq_derive.Derivation.{TermRequirement, TermFacts, Source}
use Rattle.swreq_correspondence.specs.Symbols.{Word, Symbols, left_side, right_side}
use Rattle.swreq_correspondence.specs.Shown.{ShowsUsable}

-- A requirement, and the source over which it is read: the list where it is written, or [τ_0_0 : P] for a requirement of P.
pub record Item : Type 0 where
  pub source : Source
  pub requirement : TermRequirement

-- The symbols and facts of a text, a complete base, the equations of every round, and the requirements that may join them, in order.
pub record Plan : Type 0 where
  pub symbols : Symbols
  pub facts : TermFacts
  pub base : List Rule
  pub basic : List (Word × Word)
  pub all : List Item

abbrev pub equation_of : Symbols → Item → Word × Word
equation_of m x = (left_side m x.source x.requirement, right_side m x.source x.requirement)

-- the equations of the round that uses these requirements
abbrev pub given : Plan → List Item → List (Word × Word)
given plan used = plan.basic ++ map (equation_of plan.symbols) used

-- The rules show that the type parameters of the requirement are valid.
abbrev pub AreShown : Plan → List Rule → Item → Type 0
AreShown plan rules x = ShowsUsable plan.symbols plan.facts x.source (Linked (Step rules)) x.requirement

-- Reduction by the rules shows it. By complete rules it shows just what the rules show.
abbrev pub AreShownByReduction : Plan → List Rule → Item → Type 0
AreShownByReduction plan rules x = ShowsUsable plan.symbols plan.facts x.source (ReduceAlike rules) x.requirement
