use Rattle.swreq_world.proofs.Leading.{inheritance_written}
use Rattle.swreq_world.proofs.laws.inheritance_is_what_is_written.Goals as goal

pub returns : goal.returns
returns c = λ text s w is resolve. inheritance_written text s resolve.names w is
