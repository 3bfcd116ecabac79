use Rattle.std.proofs.Common.{◌≡◌, ◌++◌, drop}
use Rattle.swreq_reqsig.proofs.Placing.{outlines_at}
use Rattle.swreq_reqsig.proofs.outlines.outlines.Given as goal

abbrev pub invariant-loop-k : goal.invariant-loop-k
invariant-loop-k l =
    let w = l.text.world.now in let terms = l.text.table.now in
    l.v.items ++ outlines_at w terms (drop l.k l.places) ≡ outlines_at w terms l.places
