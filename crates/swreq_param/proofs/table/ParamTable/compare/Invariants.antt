use Rattle.std.proofs.Common.{◌≡◌}
use Rattle.std.specs.Ordering.{ordering_then}
use Rattle.swreq_param.specs.Tables.{IsOf, term_at}
use Rattle.swreq_param.specs.Comparison.{alike_cmp}
use Rattle.swreq_param.proofs.table.ParamTable.compare.Given as goal

abbrev pub invariant-loop-left : goal.invariant-loop-left
invariant-loop-left l = IsOf l.self l.left × IsOf l.self l.right × (ordering_then (alike_cmp (term_at l.self l.left)
    (term_at l.self l.right)) l.after ≡ alike_cmp (term_at l.self l.fn.a) (term_at l.self l.fn.b))

abbrev pub decreases-loop-left : goal.decreases-loop-left
decreases-loop-left l = l.left.place
