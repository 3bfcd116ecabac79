use Rattle.std.proofs.Common.{ℕ, ◌<◌, ◌≤◌, drop}
use Rattle.swreq_map.specs.Follows.{IsKept}
use Rattle.swreq_map.proofs.map.PropertyMap.is_candidate.Given as goal

abbrev pub invariant-loop-at : goal.invariant-loop-at
invariant-loop-at l = (at : ℕ) → l.from ≤ at → at < l.at → IsKept l.self (drop at l.u) l.x → ⊥
