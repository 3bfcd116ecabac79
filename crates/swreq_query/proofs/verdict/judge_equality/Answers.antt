use Rattle.std.proofs.Common.{subst, sym}
use Rattle.swreq_print.specs.swreq_derive.Derivation.TermRequirement.{Equals}
use Rattle.swreq_machine.specs.swreq_symbols.Texts.{term_of, world_of}
use Rattle.swreq_machine.specs.Asked.{IsDerivable}
use Rattle.swreq_query.specs.Answers.{IsAnswered}
use Rattle.swreq_query.specs.Asked.{answer_of}
use Rattle.swreq_query.proofs.Judging.{equality_answer}
use Rattle.swreq_query.proofs.verdict.judge_equality.Goals as goal

pub returns-clause-answer : goal.returns-clause-answer
returns-clause-answer c = λ list is.
    let a = term_of c.args.text.now c.args.a in
    let b = term_of c.args.text.now c.args.b in
    subst (λ v. IsAnswered (IsDerivable (world_of c.args.text.now) c.args.machine.now list) (Equals a b) (answer_of v))
    (sym c.verdict_of.ensures)
    (equality_answer (IsDerivable (world_of c.args.text.now) c.args.machine.now list) a b c.are_equal.result
    (c.are_equal.ensures.answer list is))
