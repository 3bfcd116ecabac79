use Rattle.std.proofs.Common.{◌∙◌, Err, ap, subst, sym}
use Rattle.swreq_valid.proofs.swreq_symbols.Growing.{world_stays}
use Rattle.swreq_valid.specs.swreq_complete.declared.limit.Limits.{Limits}
use Rattle.swreq_valid.specs.swreq_world.ByTable.{world_by}
use Rattle.swreq_check.specs.Checks.{Checks}
use Rattle.swreq_reply.specs.Replies.{Replies}
use Rattle.swreq_reply.specs.Requests.{IsRequest, RequestView, limits_in}
use Rattle.swreq_reply.specs.Stages.{IsAccepted, ResolvedView, accepted_by, resolved_by, world_in}
use Rattle.swreq_reply.specs.Verdict.{ChecksMachines}
use Rattle.swreq_reply.proofs.Staged.{is_resolved, now_accepted}
use Rattle.swreq_reply.proofs.Verdicts.{replies_checked, replies_refused}
use Rattle.swreq_reply.proofs.finishing.checked.Goals as goal

pub invariant_of-text : goal.invariant_of-text
invariant_of-text g c = record { belong = ∣ c.resolved.invariant.text ∣₁ }

pub invariant_of-asked : goal.invariant_of-asked
invariant_of-asked g c = record { placed = ∣ rw c.deref.ensures.value c.in_ok-places.ensures ∣₁ }

pub check-requires : goal.check-requires
check-requires g c = c.resolved.invariant.text

pub invariant_of-accepted : goal.invariant_of-accepted
invariant_of-accepted g c =
    subst (λ (r : RequestView). IsAccepted (accepted_by r c.resolved.inside.world.now c.check.new.table c.in-Ok.checked)) c.r.view_is
    (now_accepted c.in-Ok.ensures.extends (is_resolved c.r.view_is c.resolved.invariant)
    (rw (c.content_of-content.ensures, c.limits_of.ensures) at c.in-Ok.ensures.checked))

pub finish-requires : goal.finish-requires
finish-requires g c = subst (λ (a : ResolvedView). ChecksMachines a.request.line) (sym c.resolved.view_is) c.requires

pub returns-in-Ok : goal.returns-in-Ok
returns-in-Ok g c =
    let r = c.resolved.inside.request.now in
    let old = g.W.Watch.told c.args.watch.now in
    let new = g.W.Watch.told c.finish.new.watch in
    subst (λ (a : ResolvedView). Replies a.request.line a.request.parts.input old new c.finish.result) c.resolved.view_is
    (replies_checked r.line r.parts.input (world_in (resolved_by r c.resolved.inside.world.now c.resolved.inside.table)) c.in-Ok.checked
    old (g.W.Watch.told c.check.new.watch) new c.finish.result
    (rw (c.limits_of.ensures ∙ ap limits_in c.r.view_is) at c.in-Ok.ensures.check)
    (rw (world_stays c.resolved.inside.table c.check.new.table c.in-Ok.ensures.extends c.resolved.inside.world.now
    c.resolved.invariant.text.table) at c.finish.ensures))

pub returns-in-Err : goal.returns-in-Err
returns-in-Err g c =
    let old = g.W.Watch.told c.args.watch.now in
    let new = g.W.Watch.told c.check.new.watch in
    subst (λ (a : ResolvedView). Replies a.request.line a.request.parts.input old new c.unchecked.result) c.resolved.view_is
    (replies_refused (subst IsRequest c.r.view_is c.r.invariant) c.resolved.invariant.world
    (subst (λ (a : ResolvedView). ChecksMachines a.request.line) (sym c.resolved.view_is) c.requires) old new
    c.in-Err.e c.unchecked.result
    (subst (λ (limits : Limits). Checks limits (world_by c.resolved.inside.table c.resolved.inside.world.now) old new (Err c.in-Err.e))
    (c.limits_of.ensures ∙ ap limits_in c.r.view_is) c.in-Err.ensures.check) c.unchecked.ensures)
