use Rattle.std.proofs.Common.{Err, IfOk, Ok, refl, subst, sym}
use Rattle.std.proofs.lemmas.Result.{err_from_is_err_and}
use Rattle.swreq_valid.specs.swreq_complete.declared.limit.Limits.{Limits}
use Rattle.swreq_valid.specs.swreq_world.ByTable.{world_by}
use Rattle.swreq_reqsig.specs.Told.{AnswersFamily}
use Rattle.swreq_check.specs.Contents.{AreFamilies}
use Rattle.swreq_check.proofs.OfChecks.{is_formed}
use Rattle.swreq_reply.specs.Replies.{FinishesAfter}
use Rattle.swreq_reply.specs.Requests.{RequestView, printed_of}
use Rattle.swreq_reply.specs.Stages.{AcceptedView}
use Rattle.swreq_reply.specs.Verdict.{IsStopOf}
use Rattle.swreq_reply.proofs.Staged.{as_accepted, is_accepted}
use Rattle.swreq_reply.proofs.Verdicts.{families_failed, families_given}
use Rattle.swreq_reply.proofs.finishing.families.Goals as goal

pub invariant_of-text : goal.invariant_of-text
invariant_of-text g c = record { belong = ∣ c.accepted.invariant.resolved.text ∣₁ }

pub kept_family-requires : goal.kept_family-requires
kept_family-requires g c =
    (is_formed _ _ c.accepted.invariant.resolved.text.closed c.accepted.invariant.checked.passed.built).protocols

pub returns-in_err-family_text-in-Ok : goal.returns-in_err-family_text-in-Ok
returns-in_err-family_text-in-Ok g c =
    let p = err_from_is_err_and c.from_residual.result c.from_residual.ensures.1 in
    let read = as_accepted c.r.view_is c.accepted.view_is in
    let is = is_accepted c.r.view_is c.accepted.invariant in
    let old = g.W.Watch.told c.args.watch.now in
    let new = g.W.Watch.told c.kept_family.new.watch in
    rw p.1 (subst (λ (a : AcceptedView). FinishesAfter a old new (Err p.0)) read
    (families_given c.r.invariant is.resolved.world is.checked.passed
    (subst (λ (a : AcceptedView). AreFamilies (printed_of a.resolved.request)) (sym read) c.requires) old new c.in-Ok.family (Err p.0)
    (rw c.limits_of.ensures at c.in-Ok.ensures.answer) c.in-Ok.ensures.given tt))

pub returns-in_ok-family_text-in-Ok : goal.returns-in_ok-family_text-in-Ok
returns-in_ok-family_text-in-Ok g c =
    let read = as_accepted c.r.view_is c.accepted.view_is in
    let is = is_accepted c.r.view_is c.accepted.invariant in
    let old = g.W.Watch.told c.args.watch.now in
    let new = g.W.Watch.told c.kept_family.new.watch in
    subst (λ (a : AcceptedView). FinishesAfter a old new (Ok (record { status = 0; output = c.new.result }))) read
    (families_given c.r.invariant is.resolved.world is.checked.passed
    (subst (λ (a : AcceptedView). AreFamilies (printed_of a.resolved.request)) (sym read) c.requires) old new c.in-Ok.family
    (Ok (record { status = 0; output = c.new.result }))
    (rw c.limits_of.ensures at c.in-Ok.ensures.answer) c.in-Ok.ensures.given
    (refl, rw (c.new.ensures, c.in_ok-family_text-in-Ok.ensures.ok, c.new-out.ensures.items)))

pub returns-in-Err : goal.returns-in-Err
returns-in-Err g c =
    let read = as_accepted c.r.view_is c.accepted.view_is in
    let is = is_accepted c.r.view_is c.accepted.invariant in
    let old = g.W.Watch.told c.args.watch.now in
    let new = g.W.Watch.told c.kept_family.new.watch in
    subst (λ (a : AcceptedView). FinishesAfter a old new c.cut_short.result) read
    (families_failed c.r.invariant is.resolved.world is.checked.passed
    (subst (λ (a : AcceptedView). AreFamilies (printed_of a.resolved.request)) (sym read) c.requires) old new c.in-Err.failed
    c.cut_short.result
    (subst (λ (limits : Limits). AnswersFamily limits (world_by c.accepted.inside.table c.accepted.inside.world.now) old new
    (Err c.in-Err.failed))
    c.limits_of.ensures c.in-Err.ensures.answer)
    (subst (λ (r : RequestView). IfOk c.cut_short.result (IsStopOf r.line c.accepted.inside.world.now.lexicon c.in-Err.failed))
    (sym c.r.view_is) c.cut_short.ensures))
