use Rattle.swreq_lowering.proofs.Over.{protocol_over}
use Rattle.swreq_lowering.proofs.laws.protocols_write_of_self.Goals as goal

pub returns : goal.returns
returns c = protocol_over
