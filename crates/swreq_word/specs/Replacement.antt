-- One part of a word replaced by another, and the congruence of a list of equations.
use Rattle.std.specs.Prelude.{◌≡◌, ℕ, List, ◌++◌, slice_get, Some}
use Rattle.swreq_word.specs.declared.symbols.Symbol.{Symbol}
use Rattle.swreq_word.specs.Relations.{Linked}

-- v has `right` where u has `left`, at one place
pub record Replaced (u v left right : List Symbol) : Type 0 where
  pub before : List Symbol
  pub after : List Symbol
  pub source : u ≡ before ++ (left ++ after)
  pub target : v ≡ before ++ (right ++ after)

-- v has the right side of an equation where u has its left side
pub record Replaces (equations : List (List Symbol × List Symbol)) (u v : List Symbol) : Type 0 where
  pub number : ℕ
  pub left : List Symbol
  pub right : List Symbol
  pub is_equation : slice_get equations number ≡ Some (left, right)
  pub at : Replaced u v left right

-- a chain leads from u to v, each link of which puts one side of an equation in place of the other
abbrev pub Congruent : List (List Symbol × List Symbol) → List Symbol → List Symbol → Type 0
Congruent equations = Linked (Replaces equations)
