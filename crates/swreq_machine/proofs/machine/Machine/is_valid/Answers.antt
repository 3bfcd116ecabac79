use Rattle.swreq_valid.specs.swreq_param.Tables.{term_at}
use Rattle.swreq_machine.proofs.Answering.{valid_answer}
use Rattle.swreq_valid.specs.swreq_symbols.Texts.{world_of}
use Rattle.swreq_valid.proofs.swreq_symbols.OfTexts.{text_over}
use Rattle.swreq_machine.proofs.machine.Machine.is_valid.Goals as goal

pub returns-clause-answer : goal.returns-clause-answer
returns-clause-answer c list is =
    valid_answer (world_of c.args.text.now) (text_over c.args.text.now).closed c.args.self.now list is
    (term_at c.args.text.now.table.now c.args.subject) c.walk.result c.walk.ensures.valid
