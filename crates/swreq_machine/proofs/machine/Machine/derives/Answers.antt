use Rattle.std.proofs.Common.{◌↔◌, IsTrue, sym, subst}
use Rattle.swreq_valid.specs.swreq_derive.declared.requirements.Requirement.{Requirement}
use Rattle.swreq_valid.specs.swreq_derive.Derivation.TermStatement.{Requires}
use Rattle.swreq_valid.specs.swreq_derive.Facts.{requirement_of}
use Rattle.swreq_machine.specs.Asked.{IsDerivable}
use Rattle.swreq_valid.specs.swreq_symbols.Texts.{world_of}
use Rattle.swreq_machine.proofs.machine.Machine.derives.Goals as goal

pub returns-in_ok-s-in-Conf : goal.returns-in_ok-s-in-Conf
returns-in_ok-s-in-Conf c list h =
    subst (λ (r : Requirement). IsTrue c.conforms.result ↔ IsDerivable (world_of c.args.text.now) c.args.self.now list
    (Requires (requirement_of c.args.text.now.table.now r)))
    (sym c.in-Conf.is) (c.conforms.ensures.answer list h)

pub returns-in_ok-s-in-Layout : goal.returns-in_ok-s-in-Layout
returns-in_ok-s-in-Layout c list h =
    subst (λ (r : Requirement). IsTrue c.any_object.result ↔ IsDerivable (world_of c.args.text.now) c.args.self.now list
    (Requires (requirement_of c.args.text.now.table.now r)))
    (sym c.in-Layout.is) (c.any_object.ensures.answer list h)

pub returns-in_ok-s-in-Same : goal.returns-in_ok-s-in-Same
returns-in_ok-s-in-Same c list h =
    subst (λ (r : Requirement). IsTrue c.equal.result ↔ IsDerivable (world_of c.args.text.now) c.args.self.now list
    (Requires (requirement_of c.args.text.now.table.now r)))
    (sym c.in-Same.is) (c.equal.ensures.answer list h)
