use Rattle.std.proofs.{Common.{get_or, take, add-one, arith}, Math.Seq.{take-suc}}
use Rattle.swreq_derivation.proofs.SetMarks.{marked_then}
use Rattle.swreq_derivation.proofs.marking.mark.Goals as goal

pub loop-k-preserved : goal.loop-k-preserved
loop-k-preserved c =
    let old = c.args.marks.now.items in
    let mid = c.loop-k.marks.items in
    let new = c.mark_premise.new.marks.items in
    let ns = c.args.numbers.now in
    let k = c.loop-k.k in
    let n = get_or ns k 0 in
    let count = c.mark_premise.ensures.count in
    let within = c.loop-k.invariant.within in
    record {
      within = omega (arith, count, within);
      marked = rw (add-one, take-suc ns k 0 c.loop-k-test.true)
          (marked_then old mid new (take k ns) n c.args.below c.loop-k.invariant.marked c.mark_premise.ensures);
    }
