use Rattle.std.proofs.Common.{◌≡◌, ◌∙◌, List, [], ap₂, sym, subst}
use Rattle.std.specs.Prelude.{MatchOption}
use Rattle.std.specs.List.{flat_map}
use Rattle.swreq_resolve.specs.swreq_decl.declared.skeleton.StepDecl.{StepDecl}
use Rattle.swreq_machine.specs.swreq_param.Terms.{with_steps}
use Rattle.swreq_machine.specs.swreq_param.Terms.Term.{Generic}
use Rattle.swreq_machine.specs.swreq_world.Closed.{IsTermOf}
use Rattle.swreq_machine.specs.swreq_world.ReadBack.{SaySteps}
use Rattle.swreq_subst.specs.Saying.{HasUnknown}
use Rattle.swreq_resolve.specs.Refusals.{of_step}
use Rattle.swreq_subst.specs.Refusals.{declared}
use Rattle.swreq_subst.proofs.Steps.{second_nothing, term_of_text}
use Rattle.swreq_subst.proofs.types.type_of.Goals as goal

pub steps_of-requires : goal.steps_of-requires
steps_of-requires c =
    let w = c.args.words.now.world.now in
    let text = c.args.words.now.text.now in
    subst (λ (ds : List StepDecl). flat_map (of_step text (declared w)) ds ≡ []) (sym c.items.ensures)
    (second_nothing _ (flat_map (of_step text (declared w)) c.args.t.now.steps) c.requires.resolves)

pub returns-clause-known : goal.returns-clause-known
returns-clause-known c =
    let text = c.args.words.now.text.now in
    let w = c.args.words.now.world.now in
    let x = w.lexicon in
    let steps = c.in-Some-2.steps.items in
    let found = subst (λ o. MatchOption o (HasUnknown w text c.items.result.now) (λ v. SaySteps text x v.items c.items.result.now))
    c.in-Some-2.is c.in_ok-steps.ensures in
    let says = subst (λ (ds : List StepDecl). SaySteps text x steps ds) c.items.ensures found in
    let stands = c.in_ok-id.ensures.stands ∙ ap₂ with_steps c.in_ok-head.ensures.ok.stands c.deref.ensures.value in (
      c.in_ok-id.ensures.id,
      subst (IsTermOf x) (sym stands) (term_of_text text x (Generic c.in-Some.param) steps c.args.t.now.steps tt says),
    )
