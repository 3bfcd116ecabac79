-- The least words of classes, and the words that are least among those that are not.
use Rattle.std.specs.Prelude.{◌≡◌, ◌⊎◌, ◌<◌, List, ◌++◌, length}
use Rattle.swreq_word.specs.declared.symbols.Symbol.{Symbol}
use Rattle.swreq_word.specs.Order.{WordLess}

-- each other word of its class is greater
abbrev pub IsLeast : (List Symbol → List Symbol → Type 0) → List Symbol → Type 0
IsLeast Class w = (v : List Symbol) → Class w v → (v ≡ w) ⊎ WordLess w v

-- it holds of each proper factor of the word
abbrev pub EachFactor : List Symbol → (List Symbol → Type 0) → Type 0
EachFactor w Holds = (before u after : List Symbol) → w ≡ before ++ (u ++ after) → length u < length w → Holds u

-- the word is not least in its class, while all its proper factors are in theirs
pub record IsMinimal (Class : List Symbol → List Symbol → Type 0) (w : List Symbol) : Type 0 where
  pub not_least : IsLeast Class w → ⊥
  pub factors : EachFactor w (IsLeast Class)
