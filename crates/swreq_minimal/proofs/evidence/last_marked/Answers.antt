use Rattle.std.proofs.Common.{◌∙◌, ◌+◌, [], ◌∷◌, ap, sym, subst, arith, length, length-append, nat_eq, eqb-true}
use Rattle.swreq_minimal.proofs.Showing.{MarksLast, one_more_mark}
use Rattle.swreq_minimal.proofs.evidence.last_marked.Goals as goal

pub loop-k-preserved : goal.loop-k-preserved
loop-k-preserved c =
    let items = c.in_ok-push.ensures.items in
    let was = c.loop-k.invariant.count in
    let one = nat_eq (c.loop-k.k + 1) c.args.count in
    record {
      count = (let l = ap length items ∙ length-append c.loop-k.marks.items (one ∷ []) in omega (arith, l, was));
      last = subst (MarksLast c.args.count) (sym items)
          (one_more_mark c.args.count c.loop-k.marks.items one
          (λ e. let s = eqb-true (c.loop-k.k + 1) c.args.count e in omega (arith, s, was)) c.loop-k.invariant.last);
    }
