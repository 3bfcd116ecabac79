-- The properties of words.
use Rattle.std.specs.Prelude.{◌↔◌, ℕ, ◌<◌, List, [], ◌∷◌, ◌++◌, Contains}
use Rattle.std.specs.Bool.{Decides}
use Rattle.std.specs.List.Sorted.{IsStrictlyIncreasing}
use Rattle.swreq_complete.specs.swreq_word.declared.symbols.Symbol.{Symbol}
use Rattle.swreq_complete.specs.swreq_word.declared.symbols.Symbol.TheVariants.{Proto, Member, Param, Name, Layout}
use Rattle.swreq_complete.specs.swreq_word.Relations.{Linked}
use Rattle.swreq_complete.specs.swreq_rule.declared.rules.Rule.{Rule}
use Rattle.swreq_complete.specs.swreq_rule.Steps.{Step}
use Rattle.swreq_map.specs.declared.map.Properties.{Properties}

-- a protocol below this number, or the layout
abbrev pub IsProperty : ℕ → Symbol → Type 0
IsProperty protocols (Proto p) = p < protocols
IsProperty protocols (Member k) = ⊥
IsProperty protocols (Param d i) = ⊥
IsProperty protocols (Name a) = ⊥
IsProperty protocols Layout = Unit {0}

-- The symbol vanishes after the word: the word with the symbol after it is congruent to the word. Where the word is irreducible, it is
-- the one to which the longer word reduces.
abbrev pub Vanishes : List Rule → List Symbol → Symbol → Type 0
Vanishes rules u x = Linked (Step rules) (u ++ x ∷ []) u

-- exactly the protocols below this number that vanish after the word, ascending, and whether the layout does
pub record ArePropertiesOf (rules : List Rule) (protocols : ℕ) (u : List Symbol) (found : Properties) : Type 0 where
  pub protocols_are : (p : ℕ) → Contains found.protocols p ↔ ((p < protocols) × Vanishes rules u (Proto p))
  pub ascending : IsStrictlyIncreasing found.protocols
  pub layout_is : Decides found.layout (Vanishes rules u Layout)
