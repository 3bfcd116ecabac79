use Rattle.std.proofs.Common.{◌+◌, ◌<◌, List, arith, length, subst, sym, take, true}
use Rattle.std.proofs.lemmas.Bool.Decides.{not_from_Decides}
use Rattle.std.proofs.lemmas.List.{take_all}
use Rattle.swreq_print.specs.swreq_lowering.Queries.{TermQuery}
use Rattle.swreq_query.specs.Asked.{answer_of}
use Rattle.swreq_check.specs.Lines.{Counted}
use Rattle.swreq_check.specs.Lines.Counted.{nothing}
use Rattle.swreq_check.specs.QueryLines.{HasAnswer}
use Rattle.swreq_valid.specs.swreq_symbols.Texts.{world_of}
use Rattle.swreq_reply.proofs.Printed.{queries_counted}
use Rattle.swreq_reply.proofs.Counted.{no_more, one_more}
use Rattle.swreq_reply.proofs.printing.count_of.Goals as goal
use Rattle.swreq_reply.proofs.printing.count_of.Goals.{else-has_verdict, then-has_verdict}

pub loop-k-init : goal.loop-k-init
loop-k-init c = (nothing, omega arith)

pub loop-k-preserved : goal.loop-k-preserved
loop-k-preserved c =
    let m = c.args.m.now in
    let Has = HasAnswer (world_of m.text) true (answer_of c.args.verdict) in
    let qs = (world_of m.text).queries in
    let below : c.loop-k.k < length qs =
    omega (arith, queries_counted _ _ c.m.view_is _ c.queries-k-end.ensures, c.loop-k-test.true) in
    elim c.if-has_verdict.branch [
      | then-has_verdict w ↦ (
        subst (Counted Has (take (c.loop-k.k + 1) qs)) (sym w.count-is)
            (one_more Has qs c.loop-k.k _ c.loop-k.count below c.loop-k.invariant.0 (c.has_verdict.ensures.0 w.if-has_verdict.true)),
        omega (arith, w.count-is, c.loop-k.invariant.1),
      )
      | else-has_verdict w ↦ (
        subst (Counted Has (take (c.loop-k.k + 1) qs)) (sym w.count-is)
            (no_more Has qs c.loop-k.k _ c.loop-k.count below c.loop-k.invariant.0
            (not_from_Decides c.has_verdict.result c.has_verdict.ensures w.if-has_verdict.false)),
        omega (arith, w.count-is, c.loop-k.invariant.1),
      )
    ]

pub returns : goal.returns
returns c =
    let m = c.args.m.now in
    subst (λ (qs : List TermQuery). Counted (HasAnswer (world_of m.text) true (answer_of c.args.verdict)) qs c.loop-k.count)
    (take_all c.loop-k.k (world_of m.text).queries
    (omega (arith, queries_counted _ _ c.m.view_is _ c.queries-k-end.ensures, c.loop-k-test.false)))
    c.loop-k.invariant.0
