use Rattle.std.proofs.Common.{refl, subst, sym}
use Rattle.swreq_print.specs.swreq_decl.Skeletons.{StandsFor}
use Rattle.swreq_reply.specs.Replies.{Replies}
use Rattle.swreq_reply.specs.Reports.{name_refusal}
use Rattle.swreq_reply.specs.Requests.{RequestView}
use Rattle.swreq_reply.specs.Stages.{IsResolved, resolved_by}
use Rattle.swreq_reply.proofs.OneRefusal.{source_within}
use Rattle.swreq_reply.proofs.Verdicts.{refused_early, unresolved}
use Rattle.swreq_reply.proofs.replying.with_skeleton.Goals as goal

pub resolve-requires-clause-limit : goal.resolve-requires-clause-limit
resolve-requires-clause-limit g c = source_within c.r.invariant.parts

pub resolve-requires-clause-stands : goal.resolve-requires-clause-stands
resolve-requires-clause-stands g c =
    subst (λ (z : RequestView). StandsFor z.parts.source c.args.skeleton.now) (sym c.r.view_is) c.requires

pub invariant_of-resolved : goal.invariant_of-resolved
invariant_of-resolved g c =
    subst (λ (z : RequestView). IsResolved (resolved_by z c.in-Ok.world c.resolve.new.table)) c.r.view_is (record {
      text = c.in-Ok.ensures.text;
      world = record {
        within = source_within c.r.invariant.parts;
        skeleton = c.args.skeleton.now;
        stands = subst (λ (z : RequestView). StandsFor z.parts.source c.args.skeleton.now) (sym c.r.view_is) c.requires;
        resolve = c.in-Ok.ensures.ok refl;
        world = c.in-Ok.ensures.world;
      };
    })

pub returns-in-Err : goal.returns-in-Err
returns-in-Err g c =
    let old = g.W.Watch.told c.args.watch.now in
    subst (λ (z : RequestView). Replies z.line z.parts.input old old c.unresolved.result) c.r.view_is
    (refused_early c.r.invariant old (name_refusal c.in-Err.e) c.unresolved.result c.unresolved.ensures
    (unresolved _ c.args.skeleton.now c.in-Err.e (source_within c.r.invariant.parts)
    (subst (λ (z : RequestView). StandsFor z.parts.source c.args.skeleton.now) (sym c.r.view_is) c.requires) c.in-Err.ensures.refused))
