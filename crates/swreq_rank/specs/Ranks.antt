-- Ranks: the places of items in a list that has each of them once, in their order.
use Rattle.std.specs.Prelude.{◌≡◌, ◌↔◌, ℕ, List, position, unwrap_or, Contains}
use Rattle.std.specs.Str.{bytes_eq}
use Rattle.std.specs.declared.cmp.Ordering.{Ordering}
use Rattle.std.specs.declared.cmp.Ordering.TheVariants.{Equal}
use Rattle.std.specs.List.Sorted.{IsStrictlySortedBy}
use Rattle.std.specs.Ordering.{nat_cmp}
use Rattle.std.specs.Cmp.Lexicographic.{slice_cmp}

-- What the order does not tell apart is equal.
abbrev pub TellsApart : {K : Type 0} → (K → K → Ordering) → Type 0
TellsApart {K} cmp = (x y : K) → cmp x y ≡ Equal → x ≡ y

-- The ranking has exactly the items of which the fact holds, strictly sorted by the order, so each once. The rank of an item is its
-- place there, from 0.
pub record IsRanking {K : Type 0} (cmp : K → K → Ordering) (Is : K → Type 0) (ranking : List K) : Type 0 where
  pub sorted : IsStrictlySortedBy cmp ranking
  pub same : (x : K) → Contains ranking x ↔ Is x

-- Names go by their bytes.
abbrev pub Bytes : Type 0
Bytes = List ℕ

abbrev pub bytes_cmp : Bytes → Bytes → Ordering
bytes_cmp = slice_cmp nat_cmp

-- the rank of a name, which is 0 where it has none; where the names of a text resolve, each of them has one
abbrev pub rank : List Bytes → Bytes → ℕ
rank names name = unwrap_or (position (bytes_eq name) names) 0
