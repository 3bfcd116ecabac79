use Rattle.swreq_top.proofs.Contracts.{is_run}
use Rattle.swreq_top.proofs.program.run.Goals as goal

pub returns-clause-run : goal.returns-clause-run
returns-clause-run g c = is_run _ c.carry_out.ensures.end
