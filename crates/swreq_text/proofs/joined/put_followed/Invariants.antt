use Rattle.std.proofs.Common.{◌≡◌, ◌++◌, map, drop}
use Rattle.swreq_text.specs.Joined.{GrewByPart, followed}
use Rattle.swreq_text.proofs.joined.put_followed.Given as goal

-- the rest is still to come, and what stands there is a part
abbrev pub invariant-loop-item : goal.invariant-loop-item
invariant-loop-item g l =
    (l.out.items ++ followed l.fn.separator (map (g.P.Print.text l.fn.printer) (drop l.item-index l.fn.items))
    ≡ l.fn.out.items ++ followed l.fn.separator (map (g.P.Print.text l.fn.printer) l.fn.items))
    × GrewByPart l.fn.out.items (followed l.fn.separator (map (g.P.Print.text l.fn.printer) l.fn.items)) l.out.items
