use Rattle.swreq_machine.specs.swreq_symbols.Texts.{world_of}
use Rattle.swreq_machine.proofs.swreq_symbols.OfTexts.{text_over}
use Rattle.swreq_evidence_tests.proofs.worlds.protocols_of.Goals as goal

pub returns-clause-formed : goal.returns-clause-formed
returns-clause-formed c =
    c.valid_sides_are_well_formed.ensures (world_of c.args.text.now) (text_over c.args.text.now).closed
    c.in_ok-protocols.ensures.answer.1.1
