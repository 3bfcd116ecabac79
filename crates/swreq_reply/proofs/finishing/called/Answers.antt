use Rattle.std.proofs.Common.{◌∙◌, ap, inl, inr, map, refl, subst, sym}
use Rattle.swreq_subst.specs.Calls.{call_by}
use Rattle.swreq_valid.proofs.swreq_symbols.Growing.{world_stays}
use Rattle.swreq_check.specs.Contents.{AreCalls}
use Rattle.swreq_reply.specs.Inputs.{second_at}
use Rattle.swreq_reply.specs.Replies.{FinishesAfter}
use Rattle.swreq_reply.specs.Reports.{name_refusal, refusal_of}
use Rattle.swreq_reply.specs.Requests.{RequestView, printed_of}
use Rattle.swreq_reply.specs.Stages.{AcceptedView}
use Rattle.swreq_reply.specs.Verdict.RefusesSecond.{bad_name, no_calls}
use Rattle.swreq_reply.proofs.Staged.{as_accepted, is_accepted, now_accepted}
use Rattle.swreq_reply.proofs.Verdicts.{calls_answered, calls_refused}
use Rattle.swreq_reply.proofs.finishing.called.Goals as goal

pub resolve_calls-requires : goal.resolve_calls-requires
resolve_calls-requires c =
    let text = (is_accepted c.r.view_is c.accepted.invariant).resolved.world in
    record {
      ids = c.names_have_ids.ensures c.accepted.inside.table text.skeleton c.accepted.inside.world.now text.stands text.world text.resolve;
    }

pub invariant_of-accepted : goal.invariant_of-accepted
invariant_of-accepted c =
    now_accepted c.in-Ok-resolve_calls.ensures.extends c.accepted.invariant.resolved c.accepted.invariant.checked

pub returns-in-Ok-resolve_calls : goal.returns-in-Ok-resolve_calls
returns-in-Ok-resolve_calls c told =
    let ids = c.accepted.inside.world.now in
    let old = c.accepted.inside.table in
    let text = c.r.inside.parts.input.now in
    let ds = c.deref.result.now in
    let calls = map (call_by c.resolve_calls.new.table) c.in-Ok-resolve_calls.calls.items in
    let read = as_accepted c.r.view_is c.accepted.view_is in
    let is = is_accepted c.r.view_is c.accepted.invariant in
    let same = world_stays old c.resolve_calls.new.table c.in-Ok-resolve_calls.ensures.extends ids is.resolved.text.table in
    subst (λ (a : AcceptedView). FinishesAfter a told told c.answered_calls.result) read
    (calls_answered c.r.invariant is.resolved.world is.checked.passed
    (subst (λ (a : AcceptedView). AreCalls (printed_of a.resolved.request)) (sym read) c.requires) told ds
    (rw (← (c.second_at.ensures ∙ ap (λ (z : RequestView). second_at z.parts) (sym c.r.view_is)), c.deref.ensures.value)
    c.in-Ok.ensures.ok)
    (c.calls_by_table.ensures.refusals old ids text ds ∙ c.in-Ok-resolve_calls.ensures.ok refl)
    calls (c.calls_by_table.ensures.say old ids text calls ds c.in-Ok-resolve_calls.ensures.calls)
    c.answered_calls.result
    (rw (same, c.deref-in-Ok-resolve_calls.ensures.value) at c.answered_calls.ensures))

pub returns-in-Err-resolve_calls : goal.returns-in-Err-resolve_calls
returns-in-Err-resolve_calls c told =
    let e = c.in-Err-resolve_calls.e in
    let read = as_accepted c.r.view_is c.accepted.view_is in
    let is = is_accepted c.r.view_is c.accepted.invariant in
    subst (λ (a : AcceptedView). FinishesAfter a told told c.unresolved.result) read
    (calls_refused c.r.invariant is.resolved.world is.checked.passed
    (subst (λ (a : AcceptedView). AreCalls (printed_of a.resolved.request)) (sym read) c.requires) told (name_refusal e)
    c.unresolved.result c.unresolved.ensures
    (λ real. bad_name c.deref.result.now e (rw (
      ← (c.second_at.ensures ∙ ap (λ (z : RequestView). second_at z.parts)
          (sym c.r.view_is)),
      c.deref.ensures.value,
    )
    c.in-Ok.ensures.ok)
    (elim c.in-Err-resolve_calls.ensures.refused [
      | inl h ↦ rw (c.calls_by_table.ensures.refusals c.accepted.inside.table c.accepted.inside.world.now c.r.inside.parts.input.now
          c.deref.result.now) h
      | inr none ↦ absurd (real none)
    ]) refl))

pub returns-in-Err : goal.returns-in-Err
returns-in-Err c told =
    let read = as_accepted c.r.view_is c.accepted.view_is in
    let is = is_accepted c.r.view_is c.accepted.invariant in
    subst (λ (a : AcceptedView). FinishesAfter a told told c.unread.result) read
    (calls_refused c.r.invariant is.resolved.world is.checked.passed
    (subst (λ (a : AcceptedView). AreCalls (printed_of a.resolved.request)) (sym read) c.requires) told (refusal_of c.in-Err.e)
    c.unread.result c.unread.ensures (λ real. no_calls c.in-Err.e real
    (rw (← (c.second_at.ensures ∙ ap (λ (z : RequestView). second_at z.parts) (sym c.r.view_is))) c.in-Err.ensures.err) refl))
