use Rattle.swreq_world.proofs.EachOnce.{own_place}
use Rattle.swreq_world.proofs.Standing.{has_place, is_in}
use Rattle.swreq_world.proofs.laws.signatures_have_places.Goals as goal

pub returns-clause-at : goal.returns-clause-at
returns-clause-at c = has_place

pub returns-clause-once : goal.returns-clause-once
returns-clause-once c = λ s g h k e. own_place s g k (is_in s g h) e
