use Rattle.std.proofs.Common.{◌∙◌, ap, subst}
use Rattle.swreq_machine.specs.swreq_lowering.declared.ids.Asks.{Asks}
use Rattle.swreq_machine.specs.swreq_lowering.declared.ids.Asks.TheVariants.{Requirement}
use Rattle.swreq_machine.specs.swreq_symbols.Known.{IsAskedIn}
use Rattle.swreq_evidence_tests.proofs.paths.put_asked.Goals as goal

pub put_given-requires-clause-asked : goal.put_given-requires-clause-asked
put_given-requires-clause-asked c =
    let text = c.checked.inside.text in
    subst (λ (a : Asks). IsAskedIn text.table.now text.world.now.lexicon a) (c.in-Requirement.is ∙ ap Requirement c.in-Conf.is)
    ((rw (← c.checked.view_is) at c.requires.query).1)
