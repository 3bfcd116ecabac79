use Rattle.swreq_machine.specs.swreq_symbols.Texts.{world_of}
use Rattle.swreq_machine.proofs.swreq_symbols.OfTexts.{text_over}
use Rattle.swreq_machine_tests.proofs.families.are_well_formed.Goals as goal

pub returns : goal.returns
returns c =
    c.valid_sides_are_well_formed.ensures (world_of c.args.text.now) (text_over c.args.text.now).closed
    c.in_ok-_protocols.ensures.answer.1.1
