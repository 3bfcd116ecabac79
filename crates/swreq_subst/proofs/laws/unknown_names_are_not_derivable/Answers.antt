use Rattle.swreq_machine.specs.swreq_world.FactsAt.{source_of}
use Rattle.swreq_machine.specs.swreq_world.Worlds.{signature_at}
use Rattle.swreq_subst.proofs.Unknown.{are_known, term_of_world}
use Rattle.swreq_subst.proofs.laws.unknown_names_are_not_derivable.Goals as goal

pub returns-clause-no_type : goal.returns-clause-no_type
returns-clause-no_type c w text f u t says = are_known w text says.steps.steps t.steps says.steps.say

pub returns-clause-derivable : goal.returns-clause-derivable
returns-clause-derivable c w f u closed valid = term_of_world w closed (source_of (signature_at w f)) u valid
