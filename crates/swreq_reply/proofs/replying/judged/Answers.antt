use Rattle.std.proofs.Common.{Err, IfOk, ap, arith, refl, subst, sym}
use Rattle.std.proofs.lemmas.List.{length-map}
use Rattle.swreq_print.specs.swreq_lowering.ByTable.{query_by}
use Rattle.swreq_check.specs.Contents.{AreJudgements}
use Rattle.swreq_reply.specs.Replies.{IsVerdictAlone}
use Rattle.swreq_reply.specs.Requests.{printed_of}
use Rattle.swreq_reply.specs.Stages.{ResolvedView}
use Rattle.swreq_reply.proofs.OneRefusal.{second_within}
use Rattle.swreq_reply.proofs.Staged.{as_resolved, is_resolved}
use Rattle.swreq_reply.proofs.Verdicts.{fits, misfits}
use Rattle.swreq_reply.proofs.replying.judged.Goals as goal

pub verify-requires-clause-text : goal.verify-requires-clause-text
verify-requires-clause-text c = c.resolved.invariant.text

pub verify-requires-clause-names : goal.verify-requires-clause-names
verify-requires-clause-names c =
    let text = (is_resolved c.r.view_is c.resolved.invariant).world in
    c.names_tell_ids_apart.ensures text.skeleton c.resolved.inside.world.now.lexicon text.stands text.world.lexicon

pub verify-requires-clause-short : goal.verify-requires-clause-short
verify-requires-clause-short c = omega (arith, second_within c.r.invariant.parts, c.r.invariant.parts.within)

pub returns-in-Ok : goal.returns-in-Ok
returns-in-Ok c =
    let (out, said, is) = c.in-Ok.ensures.output in
    let read = as_resolved c.r.view_is c.resolved.view_is in
    subst (λ (a : ResolvedView). IsVerdictAlone a.request.line a.request.parts.input (record { status = 0; output = c.new.result })) read
    (fits c.r.invariant (is_resolved c.r.view_is c.resolved.invariant).world
    (subst (λ (a : ResolvedView). AreJudgements (printed_of a.request)) (sym read) c.requires)
    (record { status = 0; output = c.new.result }) refl (rw (c.new.ensures, is, c.new-out.ensures.items) said))

pub returns-in-Err-Syntax : goal.returns-in-Err-Syntax
returns-in-Err-Syntax c =
    let read = as_resolved c.r.view_is c.resolved.view_is in
    subst (λ (a : ResolvedView). IfOk c.refused.result (IsVerdictAlone a.request.line a.request.parts.input)) read
    (misfits c.r.invariant (is_resolved c.r.view_is c.resolved.invariant).world
    (subst (λ (a : ResolvedView). AreJudgements (printed_of a.request)) (sym read) c.requires) c.in-Err-Syntax.line
    (rw (length-map c.resolved.inside.world.now.queries (query_by c.resolved.inside.table))
    (c.in-Err-Syntax.ensures.misfit c.in-Err-Syntax.line (ap Err c.in-Err-Syntax.field-0-is))) c.refused.result c.refused.ensures)
