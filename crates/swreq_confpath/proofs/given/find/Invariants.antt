use Rattle.std.proofs.Common.{◌-◌, ◌^◌}
use Rattle.swreq_confpath.specs.Searches.{IsSearch}
use Rattle.swreq_confpath.proofs.given.find.Given as goal

abbrev pub invariant-loop-next : goal.invariant-loop-next
invariant-loop-next l = IsSearch l.aim.sought l.tried l.next

-- there are no more places than memory has
abbrev pub decreases-loop-next : goal.decreases-loop-next
decreases-loop-next l = 2 ^ 64 - l.next
