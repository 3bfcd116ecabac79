use Rattle.std.proofs.Common.{subst, refl}
use Rattle.std.specs.Bool.{Decides}
use Rattle.swreq_valid.specs.swreq_param.Tables.{term_at}
use Rattle.swreq_map.specs.Properties.{Vanishes}
use Rattle.swreq_machine.proofs.Answering.{behind_answer}
use Rattle.swreq_valid.specs.swreq_symbols.Texts.{world_of}
use Rattle.swreq_machine.proofs.machine.Machine.is_behind.Goals as goal

pub returns-then-walk-clause-answer : goal.returns-then-walk-clause-answer
returns-then-walk-clause-answer c =
    behind_answer (world_of c.args.text.now) c.args.self.now
    (term_at c.args.text.now.table.now c.args.subject) c.args.symbol c.walk.new.word.items c.deref.result.now
    c.vanishes.result (c.if-walk.ensures.valid.0 refl) c.if-walk.ensures.least.1 c.deref.ensures.value
    (subst (λ r. Decides c.vanishes.result (Vanishes r c.deref.result.now c.args.symbol)) c.rules.ensures c.vanishes.ensures.answer)
