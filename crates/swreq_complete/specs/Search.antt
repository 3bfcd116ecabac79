-- How far the search for the reduced system has come, for its loops alone.
use Rattle.std.specs.Prelude.{◌≡◌, ◌⊎◌, ℕ, suc, ◌<◌, List, length, slice_get, Some}
use Rattle.std.specs.Borrow.{Bor}
use Rattle.std.specs.Ordering.{nat_cmp, ordering_then}
use Rattle.std.specs.declared.cmp.Ordering.{Ordering}
use Rattle.swreq_rule.specs.swreq_word.declared.symbols.Symbol.{Symbol}
use Rattle.swreq_rule.specs.swreq_word.Order.{word_cmp, WordLess}
use Rattle.swreq_rule.specs.swreq_word.Relations.{IsIrreducible}
use Rattle.swreq_rule.specs.declared.rules.Rule.{Rule}
use Rattle.swreq_rule.specs.Steps.{Step}
use Rattle.swreq_rule.specs.Reduction.{Reduces}
use Rattle.swreq_rule.specs.swreq_word.Least.{EachFactor}
use Rattle.swreq_complete.specs.Reduced.{IsSorted}

-- a left side where it stands, with the place of its rule
abbrev pub Key : Type 0
Key = Bor (List Symbol) × ℕ

-- by the left side, and then by the place
abbrev pub key_cmp : Key → Key → Ordering
key_cmp a b = ordering_then (word_cmp a.0.now b.0.now) (nat_cmp a.1 b.1)

-- the left side of a rule with its place, where no proper factor of it is reducible
abbrev pub IsKey : List Rule → Key → Type 0
IsKey rules key =
    (rule : Rule) × (slice_get rules key.1 ≡ Some rule) × (rule.left ≡ key.0.now) × EachFactor rule.left (IsIrreducible (Step rules))

-- the keys of all of the first `count` rules that have one, and no others
pub record AreKeysBelow (rules : List Rule) (count : ℕ) (keys : List Key) : Type 0 where
  pub each : (n : ℕ) (key : Key) → slice_get keys n ≡ Some key → IsKey rules key
  pub all : (j : ℕ) (rule : Rule) → j < count → slice_get rules j ≡ Some rule → EachFactor rule.left (IsIrreducible (Step rules))
      → (n : ℕ) × (key : Key) × (slice_get keys n ≡ Some key) × (key.0.now ≡ rule.left)

abbrev pub AreKeys : List Rule → List Key → Type 0
AreKeys rules = AreKeysBelow rules (length rules)

-- a rule with the left side and the birth of the one at the place, whose left side has no reducible proper factor, and its right side
-- reduced
abbrev pub IsReducedAt : List Rule → ℕ → Rule → Type 0
IsReducedAt rules j r = (rule : Rule) × (slice_get rules j ≡ Some rule) × (rule.left ≡ r.left) × (rule.birth ≡ r.birth)
    × EachFactor r.left (IsIrreducible (Step rules)) × Reduces rules rule.right r.right

-- a rule of some place, so reduced
abbrev pub IsReducedRule : List Rule → Rule → Type 0
IsReducedRule rules r = (j : ℕ) × IsReducedAt rules j r

-- rules so reduced, sorted, one for each left side of the first `count` keys, the last of which is not below that of a rule
pub record FoundBelow (rules : List Rule) (keys : List Key) (count : ℕ) (found : List Rule) : Type 0 where
  pub each : (n : ℕ) (r : Rule) → slice_get found n ≡ Some r → IsReducedRule rules r
  pub all : (n : ℕ) (key : Key) → n < count → slice_get keys n ≡ Some key
      → (k : ℕ) × (r : Rule) × (slice_get found k ≡ Some r) × (r.left ≡ key.0.now)
  pub sorted : IsSorted found
  pub last : (k : ℕ) (r : Rule) → slice_get found k ≡ Some r
      → (n : ℕ) × (key : Key) × (suc n ≡ count) × (slice_get keys n ≡ Some key) × (WordLess r.left key.0.now ⊎ (r.left ≡ key.0.now))

-- of the rules the ones whose left side has no reducible proper factor, sorted, each with its right side reduced
pub record Found (rules : List Rule) (found : List Rule) : Type 0 where
  pub each : (n : ℕ) (r : Rule) → slice_get found n ≡ Some r → IsReducedRule rules r
  pub all : (j : ℕ) (rule : Rule) → slice_get rules j ≡ Some rule → EachFactor rule.left (IsIrreducible (Step rules))
      → (n : ℕ) × (r : Rule) × (slice_get found n ≡ Some r) × (r.left ≡ rule.left)
  pub sorted : IsSorted found
