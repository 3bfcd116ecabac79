-- Counts that never fall: how often a stream has failed, and how often a stream in memory was called.
use Rattle.std.specs.Prelude.{◌≡◌, ◌⊎◌, ℕ, ◌+◌, ◌-◌, ◌^◌, ◌<◌, min}

-- the greatest number of 64 bits, at which a count stops
abbrev pub greatest_count : ℕ
greatest_count = 2 ^ 64 - 1

-- one more, up to the greatest count
abbrev pub one_more : ℕ → ℕ
one_more count = min (count + 1) greatest_count

-- the count is greater than before, or has reached the greatest number
abbrev pub HasRisen : ℕ → ℕ → Type 0
HasRisen old new = (old < new) ⊎ (new ≡ greatest_count)
