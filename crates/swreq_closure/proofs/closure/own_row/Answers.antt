use Rattle.std.proofs.Common.{sym, subst}
use Rattle.swreq_closure.specs.Walks.{IsRow}
use Rattle.swreq_closure.proofs.Chained.{same_places}
use Rattle.swreq_closure.proofs.closure.own_row.Goals as goal

pub returns : goal.returns
returns c =
    subst (IsRow c.args.graph.now c.args.i) (sym c.in_ok-own.ensures)
    (same_places c.args.graph.now c.args.i c.in_ok-row.row c.in_ok-short.short c.in_ok-short.ensures.room
    c.in_ok-short.ensures.same c.in_ok-row.ensures)
