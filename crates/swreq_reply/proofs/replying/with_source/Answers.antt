use Rattle.std.proofs.Common.{subst}
use Rattle.swreq_print.specs.swreq_decl.Skeletons.{StandsFor}
use Rattle.swreq_reply.specs.Replies.{Replies}
use Rattle.swreq_reply.specs.Reports.{refusal_of}
use Rattle.swreq_reply.specs.Requests.{RequestView}
use Rattle.swreq_reply.proofs.OneRefusal.{source_within}
use Rattle.swreq_reply.proofs.Verdicts.{refused_early, unread}
use Rattle.swreq_reply.proofs.replying.with_source.Goals as goal

pub parse-requires : goal.parse-requires
parse-requires g c = source_within c.r.invariant.parts

pub with_skeleton-requires : goal.with_skeleton-requires
with_skeleton-requires g c =
    subst (λ (z : RequestView). StandsFor z.parts.source c.in-Ok.skeleton) c.r.view_is ((c.parse.ensures.ok c.in-Ok.skeleton).0 c.in-Ok.is)

pub returns-in-Err : goal.returns-in-Err
returns-in-Err g c =
    let parsed = c.parse.ensures in
    let old = g.W.Watch.told c.args.watch.now in
    subst (λ (z : RequestView). Replies z.line z.parts.input old old c.unread.result) c.r.view_is
    (refused_early c.r.invariant old (refusal_of c.in-Err.e) c.unread.result c.unread.ensures
    (unread _ c.parse.result (source_within c.r.invariant.parts) parsed.lex parsed.syntax parsed.unsupported c.in-Err.e c.in-Err.is))
