use Rattle.std.proofs.Common.{◌∙◌, Err, IfOk, ap, length, subst, sym}
use Rattle.std.proofs.lemmas.Result.{IfOk-weaker, err_from_is_err_and}
use Rattle.swreq_valid.proofs.swreq_symbols.Growing.{text_stays, world_stays}
use Rattle.swreq_check.specs.Contents.{PrintsPieces}
use Rattle.swreq_reply.specs.Replies.{FinishesAfter}
use Rattle.swreq_reply.specs.Requests.{RequestView, printed_of, view_of}
use Rattle.swreq_reply.specs.Stages.{AcceptedView}
use Rattle.swreq_reply.specs.Verdict.{IsStopOf}
use Rattle.swreq_reply.proofs.Staged.{as_accepted, is_accepted}
use Rattle.swreq_reply.proofs.Verdicts.{checks_for_pieces, finishes_alone, finishes_answered, finishes_failed}
use Rattle.swreq_reply.proofs.finishing.pieces.Goals as goal

pub invariant_of-text : goal.invariant_of-text
invariant_of-text g c = record { belong = ∣ c.accepted.invariant.resolved.text ∣₁ }

pub returns-in_err-wanted : goal.returns-in_err-wanted
returns-in_err-wanted g c =
    let p = err_from_is_err_and c.from_residual.result c.from_residual.ensures.1 in
    let read = as_accepted c.r.view_is c.accepted.view_is in
    let is = is_accepted c.r.view_is c.accepted.invariant in
    let prints = subst (λ (a : AcceptedView). PrintsPieces (printed_of a.resolved.request)) (sym read) c.requires in
    let old = g.W.Watch.told c.args.watch.now in
    rw p.1 (subst (λ (a : AcceptedView). FinishesAfter a old old (Err p.0)) read
    (finishes_alone c.r.invariant is.resolved.world is.checked.passed (checks_for_pieces c.r.inside.line.now prints) old
    {P = λ o. ⊥} (Err p.0) tt (λ o none. absurd none)))

pub invariant_of-lists : goal.invariant_of-lists
invariant_of-lists g c = record { flagged = ∣ rw c.deref.ensures.value c.in_ok-wanted.ensures ∣₁ }

pub minimised_lines-requires : goal.minimised_lines-requires
minimised_lines-requires g c =
    rw c.limits_of.ensures (record {
      text = c.accepted.invariant.resolved.text;
      passed = (is_accepted c.r.view_is c.accepted.invariant).checked.passed;
    })

pub invariant_of-grown : goal.invariant_of-grown
invariant_of-grown g c = record {
  belong = ∣ text_stays c.accepted.inside.table c.minimised_lines.new.table c.minimised_lines.ensures.extends c.accepted.inside.world.now
      c.accepted.invariant.resolved.text ∣₁;
}

pub invariant_of-made : goal.invariant_of-made
invariant_of-made g c =
    let read = as_accepted c.r.view_is c.accepted.view_is in
    let is = is_accepted c.r.view_is c.accepted.invariant in
    let same = world_stays c.accepted.inside.table c.minimised_lines.new.table c.minimised_lines.ensures.extends
    c.accepted.inside.world.now is.resolved.text.table in
    rw c.content_of-content.ensures (record {
      prints = subst (λ (a : AcceptedView). PrintsPieces (printed_of a.resolved.request)) (sym read) c.requires;
      pieces = rw (c.deref-in-Ok.ensures.value, same) is.checked.pieces;
      lists = rw (c.deref-in-Ok-2.ensures.value, same) (rw c.content_of-content.ensures at c.in-Ok.ensures.lines);
      counted = ap length c.deref-in-Ok-2.ensures.value ∙ c.in-Ok.ensures.count;
    })

pub returns-in-Ok : goal.returns-in-Ok
returns-in-Ok g c =
    let read = as_accepted c.r.view_is c.accepted.view_is in
    let is = is_accepted c.r.view_is c.accepted.invariant in
    let prints = subst (λ (a : AcceptedView). PrintsPieces (printed_of a.resolved.request)) (sym read) c.requires in
    let old = g.W.Watch.told c.args.watch.now in
    let new = g.W.Watch.told c.minimised_lines.new.watch in
    subst (λ (a : AcceptedView). FinishesAfter a old new c.answered.result) read
    (finishes_answered c.r.invariant is.resolved.world is.checked.passed prints is.resolved.text.closed old new c.answered.result
    (rw (c.content_of-content.ensures, c.limits_of.ensures) at c.in-Ok.ensures.told)
    (IfOk-weaker c.answered.result _ _ (λ o (status, output). (status, output (view_of c.r.inside.parts)))
    (rw (
      c.content_of-content.ensures,
      world_stays c.accepted.inside.table c.minimised_lines.new.table c.minimised_lines.ensures.extends
          c.accepted.inside.world.now is.resolved.text.table,
    ) at c.answered.ensures)))

pub returns : goal.returns
returns g c =
    let read = as_accepted c.r.view_is c.accepted.view_is in
    let is = is_accepted c.r.view_is c.accepted.invariant in
    let prints = subst (λ (a : AcceptedView). PrintsPieces (printed_of a.resolved.request)) (sym read) c.requires in
    let old = g.W.Watch.told c.args.watch.now in
    let new = g.W.Watch.told c.minimised_lines.new.watch in
    subst (λ (a : AcceptedView). FinishesAfter a old new c.cut_short.result) read
    (finishes_failed c.r.invariant is.resolved.world is.checked.passed prints old new c.in-Err.failed c.cut_short.result
    (rw (c.content_of-content.ensures, c.limits_of.ensures) at c.in-Err.ensures.failed)
    (subst (λ (r : RequestView). IfOk c.cut_short.result (IsStopOf r.line c.accepted.inside.world.now.lexicon c.in-Err.failed))
    (sym c.r.view_is) c.cut_short.ensures))
