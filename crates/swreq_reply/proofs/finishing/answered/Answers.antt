use Rattle.std.proofs.Common.{refl}
use Rattle.swreq_reply.proofs.finishing.answered.Goals as goal

pub returns : goal.returns
returns c = (refl, rw c.new.ensures c.in_ok-output.ensures)
