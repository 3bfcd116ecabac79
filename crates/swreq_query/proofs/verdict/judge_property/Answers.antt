use Rattle.std.proofs.Common.{subst, sym}
use Rattle.swreq_machine.specs.Asked.{IsDerivable}
use Rattle.swreq_machine.specs.Having.{has}
use Rattle.swreq_machine.specs.swreq_symbols.Texts.{term_of, world_of}
use Rattle.swreq_query.specs.Answers.{IsAnswered}
use Rattle.swreq_query.specs.Asked.{answer_of}
use Rattle.swreq_query.proofs.Judging.{property_answer}
use Rattle.swreq_query.proofs.verdict.judge_property.Goals as goal

pub returns-clause-answer : goal.returns-clause-answer
returns-clause-answer c = λ list is. subst
    (λ v. IsAnswered (IsDerivable (world_of c.args.text.now) c.args.machine.now list)
    (has (term_of c.args.text.now c.args.t) c.args.property) (answer_of v))
    (sym c.verdict_of.ensures)
    (property_answer (IsDerivable (world_of c.args.text.now) c.args.machine.now list)
    (term_of c.args.text.now c.args.t) c.args.property
    c.has.result (c.has.ensures.answer list is))
