-- Where two words overlap, and where one of them stands in the other.
use Rattle.std.specs.Prelude.{◌≡◌, ℕ, ◌<◌, List, ◌++◌, length}
use Rattle.swreq_word.specs.declared.symbols.Symbol.{Symbol}

-- From this place on, which is past its start, u ends as v begins, and v goes on past the end of u.
pub record Overlap (u v : List Symbol) (at : ℕ) : Type 0 where
  pub before : List Symbol
  pub common : List Symbol
  pub after : List Symbol
  pub before_some : 0 < length before
  pub common_some : 0 < length common
  pub after_some : 0 < length after
  pub first_is : u ≡ before ++ common
  pub second_is : v ≡ common ++ after
  pub at_is : length before ≡ at

-- At this place of u stands v.
pub record Containment (u v : List Symbol) (at : ℕ) : Type 0 where
  pub before : List Symbol
  pub after : List Symbol
  pub first_is : u ≡ before ++ (v ++ after)
  pub at_is : length before ≡ at
