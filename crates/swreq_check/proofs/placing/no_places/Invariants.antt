use Rattle.std.proofs.Common.{◌≡◌, [], All, Vec, length, ℕ}
use Rattle.std.specs.declared.alloc.Global.{Global}
use Rattle.swreq_check.proofs.placing.no_places.Given as goal

abbrev pub invariant-loop : goal.invariant-loop
invariant-loop l = (length l.groups.items ≡ l.counter) × All (λ (group : Vec ℕ Global). group.items ≡ []) l.groups.items
