-- A stream of the system with a count of its faults.
use Rattle.std.specs.Prelude.{ℕ}

pub record Counted (Stream : Type 0) : Type 0 where
  pub inner : Stream
  -- how many calls have failed, up to the greatest count
  pub faults : ℕ
