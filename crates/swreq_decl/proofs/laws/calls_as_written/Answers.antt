use Rattle.swreq_decl.proofs.AsWritten.{calls_as_written}
use Rattle.swreq_decl.proofs.laws.calls_as_written.Goals as goal

pub returns : goal.returns
returns c = calls_as_written
