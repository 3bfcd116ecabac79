use Rattle.std.proofs.Common.{subst, sym}
use Rattle.swreq_machine.specs.swreq_derive.Facts.{generic_params}
use Rattle.swreq_candidates.specs.Evidence.{IsPlainIn}
use Rattle.swreq_machine.specs.swreq_world.Closed.{IsTermOf}
use Rattle.swreq_minimal.specs.TextLists.{facts_by, said_by}
use Rattle.swreq_minimal.proofs.plain.is_plain.Goals as goal

pub loop-init : goal.loop-init
loop-init c = (c.requires, λ h. h)

pub gives_step-requires : goal.gives_step-requires
gives_step-requires c =
    (subst (λ t. IsTermOf c.args.among.now.text.world.now.lexicon t) c.in-Some.ensures.1 c.loop.invariant.0.1).1

pub loop-preserved : goal.loop-preserved
loop-preserved c =
    let l = c.args.among.now in (
      (c.in-Some.ensures.0, (subst (λ t. IsTermOf l.text.world.now.lexicon t) c.in-Some.ensures.1 c.loop.invariant.0.1).0),
      λ h. c.loop.invariant.1
          (subst (IsPlainIn (facts_by l) (generic_params l.params) (said_by l))
          (sym c.in-Some.ensures.1) (c.gives_step.ensures c.if-not-gives_step.false (generic_params l.params) h)),
    )
