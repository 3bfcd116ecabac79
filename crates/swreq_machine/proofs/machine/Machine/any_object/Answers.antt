use Rattle.swreq_valid.specs.swreq_param.Tables.{term_at}
use Rattle.swreq_machine.proofs.Answering.{layout_answer}
use Rattle.swreq_valid.specs.swreq_symbols.Texts.{world_of}
use Rattle.swreq_valid.proofs.swreq_symbols.OfTexts.{text_over}
use Rattle.swreq_machine.proofs.machine.Machine.any_object.Goals as goal

pub returns-clause-answer : goal.returns-clause-answer
returns-clause-answer c list is =
    layout_answer (world_of c.args.text.now) (text_over c.args.text.now).closed c.args.self.now list is
    (term_at c.args.text.now.table.now c.args.subject) c.is_behind.result c.is_behind.ensures.answer
