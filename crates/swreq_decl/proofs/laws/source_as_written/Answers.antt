use Rattle.swreq_decl.proofs.AsWritten.{source_as_written}
use Rattle.swreq_decl.proofs.laws.source_as_written.Goals as goal

pub returns : goal.returns
returns c = source_as_written
