use Rattle.std.proofs.Common.{ℕ, ◌<◌, ◌≤◌, Contains, drop}
use Rattle.swreq_complete.specs.swreq_word.declared.symbols.Symbol.{Symbol}
use Rattle.swreq_map.specs.Follows.{IsKept}
use Rattle.swreq_map.proofs.map.PropertyMap.candidates.Given as goal

abbrev pub invariant-loop-at : goal.invariant-loop-at
invariant-loop-at l = (at : ℕ) (x : Symbol) → l.from ≤ at → at < l.at → IsKept l.self (drop at l.u) x → Contains l.found.items x
