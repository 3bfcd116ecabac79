use Rattle.std.proofs.Common.{◌∙◌, ap, sym}
use Rattle.swreq_reply.specs.Requests.{printed_of}
use Rattle.swreq_reply.specs.Stages.{AcceptedView}
use Rattle.swreq_reply.proofs.Staged.{as_accepted}
use Rattle.swreq_reply.proofs.Verdicts.{prints_pieces}
use Rattle.swreq_reply.proofs.finishing.finish.Goals as goal

pub families-requires : goal.families-requires
families-requires g c =
    ap (λ (a : AcceptedView). printed_of a.resolved.request) (sym (as_accepted c.r.view_is c.accepted.view_is))
    ∙ sym c.content_of.ensures ∙ c.in-Families.is

pub called-requires : goal.called-requires
called-requires g c =
    ap (λ (a : AcceptedView). printed_of a.resolved.request) (sym (as_accepted c.r.view_is c.accepted.view_is))
    ∙ sym c.content_of.ensures ∙ c.in-Calls.is

pub pieces-requires : goal.pieces-requires
pieces-requires g c =
    let printed = c.content_of.ensures
    ∙ ap (λ (a : AcceptedView). printed_of a.resolved.request) (as_accepted c.r.view_is c.accepted.view_is) in
    prints_pieces _ c.requires (λ e. c.in_default.not-Families (printed ∙ e)) (λ e. c.in_default.not-Calls (printed ∙ e))

pub returns-in-Calls : goal.returns-in-Calls
returns-in-Calls g c = c.called.ensures (g.W.Watch.told c.args.watch.now)
