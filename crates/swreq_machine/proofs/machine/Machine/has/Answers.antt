use Rattle.std.proofs.Common.{sym, subst}
use Rattle.swreq_valid.specs.swreq_param.Tables.{term_at}
use Rattle.swreq_map.specs.Properties.{IsProperty}
use Rattle.swreq_valid.specs.swreq_world.ByTable.{world_by}
use Rattle.swreq_machine.proofs.Telling.{is_property, tells_if_has}
use Rattle.swreq_valid.proofs.swreq_symbols.OfTexts.{text_over}
use Rattle.swreq_machine.proofs.machine.Machine.has.Goals as goal

pub vanishing-requires-clause-property : goal.vanishing-requires-clause-property
vanishing-requires-clause-property c =
    subst (λ x. IsProperty c.args.map.now.protocols x) (sym c.symbol.ensures)
    (is_property c.args.map.now.protocols c.args.property c.requires.property)

pub returns-clause-answer : goal.returns-clause-answer
returns-clause-answer c list is =
    tells_if_has (world_by c.args.text.now.table.now c.args.text.now.world.now) (text_over c.args.text.now).closed c.args.self.now list is
    (term_at c.args.text.now.table.now c.args.t)
    c.args.property c.symbol.result c.vanishing.result c.symbol.ensures c.vanishing.ensures.answer
