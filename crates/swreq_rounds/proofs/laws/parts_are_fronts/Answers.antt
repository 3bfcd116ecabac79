use Rattle.swreq_rounds.proofs.Fronts.{parts_are_fronts}
use Rattle.swreq_rounds.proofs.laws.parts_are_fronts.Goals as goal

pub returns : goal.returns
returns c = parts_are_fronts
