use Rattle.std.proofs.Common.{◌≡◌, ℕ, ◌+◌, ◌-◌, None, get_or, vec_len}
use Rattle.swreq_world.proofs.places.note.Given as goal

abbrev pub invariant-loop-places : goal.invariant-loop-places
invariant-loop-places l = (k : ℕ) → get_or l.places.items k None ≡ get_or l.initial.places.items k None

abbrev pub decreases-loop-places : goal.decreases-loop-places
decreases-loop-places l = l.index + 1 - vec_len l.places
