use Rattle.std.proofs.Common.{Contains, get_or, subst, sym}
use Rattle.std.proofs.lemmas.List.Elements.{Contains-get_or}
use Rattle.swreq_closure.specs.Walks.{IsRow}
use Rattle.swreq_closure.proofs.Chained.{cycle_row}
use Rattle.swreq_closure.proofs.closure.cycle_row.Goals as goal

pub returns-in-Some : goal.returns-in-Some
returns-in-Some c =
    let steps = c.next-j-items.result.now in
    let j = get_or steps c.loop-j.j-index 0 in
    let row = c.in-Some.row.now in
    subst (IsRow c.args.graph.now c.args.i) (sym c.in_ok-same.ensures)
    (cycle_row c.args.graph.now c.args.i j row
    (subst (λ places. Contains places j) c.next-j-items.ensures (Contains-get_or steps c.loop-j.j-index 0 c.loop-j-test.true))
    c.in-Some.ensures.there (c.requires.right j row c.in-Some.ensures.known))
