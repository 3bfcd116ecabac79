use Rattle.std.proofs.Common.{arith}
use Rattle.std.proofs.lemmas.Grind.{common_steps}
use Rattle.swreq_print.proofs.Steps.{type_by_steps}
use Rattle.swreq_query.proofs.reduced.type_line.Goals as goal

pub returns-clause-ok : goal.returns-clause-ok
returns-clause-ok c = grind (arith, common_steps, type_by_steps)
