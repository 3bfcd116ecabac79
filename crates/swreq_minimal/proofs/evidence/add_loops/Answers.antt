use Rattle.std.proofs.Common.{arith, sym}
use Rattle.swreq_minimal.proofs.Showing.{pair_there}
use Rattle.swreq_minimal.proofs.evidence.add_loops.Goals as goal

pub add_pair-requires-clause-pair : goal.add_pair-requires-clause-pair
add_pair-requires-clause-pair c =
    let e = c.len-k-end.ensures in
    let l = c.loop-k-test.true in
    let o = c.in_ok-pairs.pairs.ok in
    pair_there c.args.all.now.rules.now c.args.number c.in_ok-pairs.pairs.items c.loop-k.k c.index.result.now (omega (arith, e, l, o))
    (sym c.index.ensures)
    c.in_ok-pairs.ensures
