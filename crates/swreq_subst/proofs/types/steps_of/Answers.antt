use Rattle.std.proofs.Common.{get_or}
use Rattle.std.proofs.lemmas.List.{get_or_default}
use Rattle.swreq_resolve.specs.swreq_decl.declared.skeleton.StepDecl.{StepDecl}
use Rattle.swreq_resolve.specs.swreq_decl.declared.skeleton.StepDecl.TheVariants.{Plain}
use Rattle.swreq_resolve.specs.Refusals.{of_step}
use Rattle.swreq_subst.specs.Refusals.{declared}
use Rattle.swreq_subst.proofs.Steps.{nothing_of_each, says_next}
use Rattle.swreq_subst.proofs.types.steps_of.Goals as goal

pub step_of-requires : goal.step_of-requires
step_of-requires c =
    nothing_of_each (of_step c.args.words.now.text.now (declared c.args.words.now.world.now)) c.args.steps.now c.loop-k.k
    (Plain (record { start = 0; end = 0 })) c.requires c.loop-k-test.true

pub loop-k-preserved : goal.loop-k-preserved
loop-k-preserved c =
    let text = c.args.words.now.text.now in
    let x = c.args.words.now.world.now.lexicon in
    let d : StepDecl = get_or c.args.steps.now c.loop-k.k (Plain (record { start = 0; end = 0 })) in
    says_next text x c.loop-k.found.items c.push.new.self.items c.args.steps.now c.loop-k.k c.in-Some.step d c.loop-k-test.true
    (get_or_default c.args.steps.now c.loop-k.k (Plain (record { start = 0; end = 0 })) d c.loop-k-test.true)
    c.loop-k.invariant c.in-Some.ensures c.in_ok-push-in-Some.ensures.items
