use Rattle.swreq_world.proofs.OfSelf.{over_self}
use Rattle.swreq_world.proofs.laws.protocols_require_of_self.Goals as goal

pub returns : goal.returns
returns c = over_self
