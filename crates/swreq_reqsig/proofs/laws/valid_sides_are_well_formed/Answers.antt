use Rattle.swreq_reqsig.proofs.WellFormed.{protocols_formed}
use Rattle.swreq_reqsig.proofs.laws.valid_sides_are_well_formed.Goals as goal

pub returns : goal.returns
returns c w closed h = protocols_formed w closed h
