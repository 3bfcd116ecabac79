use Rattle.std.proofs.Common.{◌≡◌, ◌∙◌, ◌<◌, Some, ap, length, rules, subst, sym}
use Rattle.std.specs.Bool.{Decides}
use Rattle.std.proofs.lemmas.Bool.Decides.{Decides-like}
use Rattle.swreq_check.specs.Made.{verdict_at}
use Rattle.swreq_reply.specs.Pieces.{IsWhole, MadeView}
use Rattle.swreq_reply.proofs.Printed.{has_place, verdict_there}
use Rattle.swreq_reply.proofs.printing.has_verdict.Goals as goal

pub verdict_at-requires : goal.verdict_at-requires
verdict_at-requires c =
    subst (λ (m : MadeView). c.args.k < length m.pieces) (sym c.m.view_is)
    (has_place c.args.m.now (subst IsWhole c.m.view_is c.m.invariant) c.requires.answers c.args.k c.requires.k)

pub returns : goal.returns
returns c =
    let decides : Decides c.eq.result (c.verdict_at.result ≡ Some c.args.verdict) = search rules in
    let read = c.verdict_at.ensures ∙ ap (λ (z : MadeView). verdict_at z.pieces c.args.k) c.m.view_is in
    let whole = subst IsWhole c.m.view_is c.m.invariant in
    let has = verdict_there c.args.m.now whole c.requires.answers c.args.k c.requires.k c.args.verdict in
    Decides-like c.eq.result (λ e. has.1 (sym read ∙ e)) (λ h. read ∙ has.0 h) decides
