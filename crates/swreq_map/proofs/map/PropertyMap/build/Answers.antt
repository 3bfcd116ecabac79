use Rattle.std.proofs.Common.{inr}
use Rattle.swreq_map.proofs.map.PropertyMap.build.Goals as goal

pub returns-clause-map : goal.returns-clause-map
returns-clause-map c rule v x is e p = inr (c.in_ok-own.ensures rule v x is e p)
