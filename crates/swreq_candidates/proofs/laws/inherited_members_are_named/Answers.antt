use Rattle.swreq_candidates.proofs.Inherited.{declared_named}
use Rattle.swreq_candidates.proofs.laws.inherited_members_are_named.Goals as goal

pub returns : goal.returns
returns c = declared_named
