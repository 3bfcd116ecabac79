use Rattle.std.proofs.Common.{◌≡◌, ◌<◌, inl, inr, refl, subst, sym}
use Rattle.swreq_print.specs.swreq_derive.declared.requirements.Requirement.{Requirement as AnyRequirement}
use Rattle.swreq_print.specs.swreq_derive.Facts.{requirement_of}
use Rattle.swreq_print.specs.swreq_lowering.declared.ids.Asks.TheVariants.{Requirement}
use Rattle.swreq_machine.specs.Asked.{IsDerivable}
use Rattle.swreq_machine.specs.swreq_symbols.Texts.{term_of, world_of}
use Rattle.swreq_query.specs.Answers.{IsAnswered}
use Rattle.swreq_query.specs.Asked.{HasRoomToAnswer, answer_of}
use Rattle.swreq_query.proofs.verdict.judge.Goals as goal
use Rattle.swreq_query.proofs.verdict.judge.Goals.{Start}

-- what is asked, where the requirement is this one
asked : (c : Start) (r : AnyRequirement) → c.args.requirement ≡ r → HasRoomToAnswer c.args.text.now c.args.scratch.now (Requirement r)
asked c r is = subst (λ (q : AnyRequirement). HasRoomToAnswer c.args.text.now c.args.scratch.now (Requirement q)) is c.requires.requirement

pub judge_property-requires-clause-t : goal.judge_property-requires-clause-t
judge_property-requires-clause-t c =
    let h = asked (goal.at.judge_property-requires-clause-t c).Start _ c.in-Conf.is in
    record { of_text = (h.of_text.0, h.of_text.1.0); room = h.room (term_of c.args.text.now c.in-Conf.subject) refl }

pub judge_property-requires-clause-property : goal.judge_property-requires-clause-property
judge_property-requires-clause-property c =
    let h = asked (goal.at.judge_property-requires-clause-property c).Start _ c.in-Conf.is in
    subst (λ n. c.in-Conf.proto.rank < n) (sym c.requires.protocols) h.of_text.1.1

pub judge_property-requires-in-Layout-clause-t : goal.judge_property-requires-in-Layout-clause-t
judge_property-requires-in-Layout-clause-t c =
    let h = asked (goal.at.judge_property-requires-in-Layout-clause-t c).Start _ c.in-Layout.is in
    record { of_text = (h.of_text.0, h.of_text.1); room = h.room (term_of c.args.text.now c.in-Layout.subject) refl }

pub judge_equality-requires-clause-a : goal.judge_equality-requires-clause-a
judge_equality-requires-clause-a c =
    let h = asked (goal.at.judge_equality-requires-clause-a c).Start _ c.in-Same.is in
    record { of_text = (h.of_text.0.0, h.of_text.1.0); room = h.room (term_of c.args.text.now c.in-Same.left) (inl refl) }

pub judge_equality-requires-clause-b : goal.judge_equality-requires-clause-b
judge_equality-requires-clause-b c =
    let h = asked (goal.at.judge_equality-requires-clause-b c).Start _ c.in-Same.is in
    record { of_text = (h.of_text.0.1, h.of_text.1.1); room = h.room (term_of c.args.text.now c.in-Same.right) (inr refl) }

pub returns-in-Conf-clause-answer : goal.returns-in-Conf-clause-answer
returns-in-Conf-clause-answer c list is =
    subst (λ z. IsAnswered (IsDerivable (world_of c.args.text.now) c.args.machine.now list)
    (requirement_of c.args.text.now.table.now z) (answer_of c.judge_property.result))
    (sym c.in-Conf.is) (c.judge_property.ensures.answer list is)

pub returns-in-Layout-clause-answer : goal.returns-in-Layout-clause-answer
returns-in-Layout-clause-answer c list is =
    subst (λ z. IsAnswered (IsDerivable (world_of c.args.text.now) c.args.machine.now list)
    (requirement_of c.args.text.now.table.now z) (answer_of c.judge_property-in-Layout.result))
    (sym c.in-Layout.is) (c.judge_property-in-Layout.ensures.answer list is)

pub returns-in-Same-clause-answer : goal.returns-in-Same-clause-answer
returns-in-Same-clause-answer c list is =
    subst (λ z. IsAnswered (IsDerivable (world_of c.args.text.now) c.args.machine.now list)
    (requirement_of c.args.text.now.table.now z) (answer_of c.judge_equality.result))
    (sym c.in-Same.is) (c.judge_equality.ensures.answer list is)
