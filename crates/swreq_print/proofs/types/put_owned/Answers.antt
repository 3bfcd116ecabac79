use Rattle.std.proofs.Common.{arith}
use Rattle.std.proofs.lemmas.Grind.{common_steps}
use Rattle.swreq_print.proofs.Steps.{type_by_steps}
use Rattle.swreq_print.proofs.types.put_owned.Goals as goal

pub returns : goal.returns
returns c = grind (arith, common_steps, type_by_steps)
