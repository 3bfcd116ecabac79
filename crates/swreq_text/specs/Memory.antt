-- What contracts see of the streams in memory.
use Rattle.std.specs.Prelude.{ℕ, ◌<◌, ◌≤◌, List, length, Contains}
use Rattle.swreq_text.specs.Faults.{one_more}

-- a source in memory
pub record SourceState : Type 0 where
  -- the bytes still to come
  pub left : List ℕ
  -- the most that one call gives
  pub piece : ℕ
  -- the numbers of the calls that fail, counted from 1
  pub fails : List ℕ
  -- how many calls there were
  pub calls : ℕ
  -- how many of them failed
  pub faults : ℕ

-- a sink in memory
pub record SinkState : Type 0 where
  -- the bytes taken so far
  pub taken : List ℕ
  -- the most that it takes in all
  pub room : ℕ
  -- the most that one call takes
  pub piece : ℕ
  -- the numbers of the calls that fail, counted from 1
  pub fails : List ℕ
  -- how many calls there were
  pub calls : ℕ
  -- how many of them failed
  pub faults : ℕ

-- the next call is one of those that fail
abbrev pub FailsNext : List ℕ → ℕ → Type 0
FailsNext fails calls = Contains fails (one_more calls)

-- bytes come, and there is no room for one of them
abbrev pub IsFullFor : SinkState → List ℕ → Type 0
IsFullFor sink piece = (0 < length piece) × (sink.room ≤ length sink.taken)
