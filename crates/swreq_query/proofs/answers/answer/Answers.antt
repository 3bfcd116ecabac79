use Rattle.std.proofs.Common.{Some, refl, subst, sym}
use Rattle.std.proofs.lemmas.Result.{IfOk-weaker, on_ok_weaker}
use Rattle.swreq_machine.specs.Asked.{IsDerivable}
use Rattle.swreq_machine.specs.swreq_symbols.Texts.{term_of, world_of}
use Rattle.swreq_print.specs.swreq_derive.Facts.{requirement_of}
use Rattle.swreq_print.specs.swreq_lowering.ByTable.{asks_by}
use Rattle.swreq_print.specs.swreq_lowering.Queries.TermAsks.{AsksRequirement}
use Rattle.swreq_query.specs.Asked.{AppendsAnswer, HasRoomToAnswer, IsVerdictOf, answer_of}
use Rattle.swreq_query.proofs.Appending.{line_appended}
use Rattle.swreq_query.proofs.OneAnswer.{only_verdict}
use Rattle.swreq_query.proofs.answers.answer.Goals as goal

pub reduced_line-requires : goal.reduced_line-requires
reduced_line-requires c =
    let h = subst (HasRoomToAnswer c.args.text.now c.args.scratch.now) c.in-Reduced.is c.requires.asks in
    record { of_text = h.of_text; room = h.room (term_of c.args.text.now c.in-Reduced.t) refl }

pub judge-verdict-requires-clause-requirement : goal.judge-verdict-requires-clause-requirement
judge-verdict-requires-clause-requirement c =
    subst (HasRoomToAnswer c.args.text.now c.args.scratch.now) c.in-Requirement.is c.requires.asks

pub returns-in-Reduced-clause-ok : goal.returns-in-Reduced-clause-ok
returns-in-Reduced-clause-ok c = on_ok_weaker c.reduced_line.result
    (λ h list is. subst
    (λ z. AppendsAnswer c.args.text.now.world.now.lexicon (IsDerivable (world_of c.args.text.now) c.args.machine.now list)
    (asks_by c.args.text.now.table.now z) c.args.out.now.items c.reduced_line.new.out.items)
    (sym c.in-Reduced.is) (h list is))
    c.reduced_line.ensures.ok

pub returns-in-Reduced-clause-verdict : goal.returns-in-Reduced-clause-verdict
returns-in-Reduced-clause-verdict c =
    IfOk-weaker c.reduced_line.result _ _
    (λ verdict h list is.
    let derivable = IsDerivable (world_of c.args.text.now) c.args.machine.now list in
    subst (λ z. IsVerdictOf derivable (asks_by c.args.text.now.table.now z) verdict) (sym c.in-Reduced.is) (h list is))
    c.reduced_line.ensures.verdict

pub returns-in_ok-append_bytes-in-Requirement-clause-ok : goal.returns-in_ok-append_bytes-in-Requirement-clause-ok
returns-in_ok-append_bytes-in-Requirement-clause-ok c = λ list is.
    let derivable = IsDerivable (world_of c.args.text.now) c.args.machine.now list in
    subst (λ z. AppendsAnswer c.args.text.now.world.now.lexicon derivable (asks_by c.args.text.now.table.now z) c.args.out.now.items
    c.append_bytes.new.out.items) (sym c.in-Requirement.is)
    (line_appended derivable c.args.text.now.world.now.lexicon
    (AsksRequirement (requirement_of c.args.text.now.table.now c.in-Requirement.r))
    (answer_of c.judge-verdict.result) c.line.result.now c.args.out.now.items c.append_bytes.new.out.items
    (c.judge-verdict.ensures.answer list is) (c.line.ensures c.args.text.now.world.now.lexicon)
    c.in_ok-append_bytes-in-Requirement.ensures.ok)

pub returns-in_ok-append_bytes-in-Requirement-clause-verdict : goal.returns-in_ok-append_bytes-in-Requirement-clause-verdict
returns-in_ok-append_bytes-in-Requirement-clause-verdict c = λ list is.
    let derivable = IsDerivable (world_of c.args.text.now) c.args.machine.now list in
    subst (λ z. IsVerdictOf derivable (asks_by c.args.text.now.table.now z) (Some c.judge-verdict.result)) (sym c.in-Requirement.is)
    (only_verdict derivable (AsksRequirement (requirement_of c.args.text.now.table.now c.in-Requirement.r)) c.judge-verdict.result
    (c.judge-verdict.ensures.answer list is))
