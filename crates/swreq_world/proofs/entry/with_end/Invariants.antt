use Rattle.std.proofs.Common.{◌≡◌, ◌++◌, ◌-◌, length, map, take}
use Rattle.swreq_world.proofs.entry.with_end.Given as goal

abbrev pub invariant-loop-r : goal.invariant-loop-r
invariant-loop-r l =
    l.list.items ≡ take (length l.fn.list.items - l.less) l.fn.list.items ++ map (λ r. r.requirement) (take l.r-index l.own)
