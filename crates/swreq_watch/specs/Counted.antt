-- How many rules were born.
use Rattle.std.specs.Prelude.{ℕ, ◌+◌, ◌-◌, ◌^◌, min}
use Rattle.swreq_watch.specs.declared.events.Event.{Event}
use Rattle.swreq_watch.specs.declared.events.Event.TheVariants.{Start, Born}

-- the count after the event: one more for a rule born, up to the greatest number of 64 bits
abbrev pub counted : Event → ℕ → ℕ
counted (Start base) count = count
counted (Born rule) count = min (count + 1) (2 ^ 64 - 1)
