use Rattle.std.proofs.Common.{arith, subst}
use Rattle.swreq_confpath.specs.Searches.{IsAim}
use Rattle.swreq_confpath.proofs.Searching.{begins, ends}
use Rattle.swreq_confpath.proofs.given.find.Goals as goal

pub loop-next-init : goal.loop-next-init
loop-next-init c =
    begins c.args.aim.now.sought (subst IsAim c.aim.view_is c.aim.invariant).known c.in_ok-tried.tried c.in_ok-tried.ensures

pub unreachable-requires : goal.unreachable-requires
unreachable-requires c =
    let count = c.len.ensures in
    let last = c.loop-next-test.false in
    ends c.args.aim.now.sought (subst IsAim c.aim.view_is c.aim.invariant).known c.loop-next.tried c.loop-next.next
    c.loop-next.invariant (omega (arith, count, last))
