use Rattle.std.proofs.Common.{◌∙◌, ap, sym}
use Rattle.swreq_reply.specs.Requests.{printed_of}
use Rattle.swreq_reply.specs.Stages.{ResolvedView}
use Rattle.swreq_reply.proofs.Staged.{as_resolved}
use Rattle.swreq_reply.proofs.Verdicts.{replies_alone}
use Rattle.swreq_reply.proofs.replying.with_world.Goals as goal

pub judged-requires : goal.judged-requires
judged-requires g c =
    ap (λ (a : ResolvedView). printed_of a.request) (sym (as_resolved c.r.view_is c.resolved.view_is))
    ∙ sym c.content_of.ensures ∙ c.in-Judgements.is

pub checked-requires : goal.checked-requires
checked-requires g c e =
    c.in_default.not-Judgements (c.content_of.ensures
    ∙ ap (λ (a : ResolvedView). printed_of a.request) (as_resolved c.r.view_is c.resolved.view_is) ∙ e)

pub returns-in-Judgements : goal.returns-in-Judgements
returns-in-Judgements g c =
    replies_alone c.args.resolved.request.line c.args.resolved.request.parts.input
    (g.W.Watch.told c.args.watch.now) c.judged.result c.judged.ensures (λ o h. h)
