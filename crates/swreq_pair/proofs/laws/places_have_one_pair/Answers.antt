use Rattle.swreq_pair.proofs.OnePair.{one_pair}
use Rattle.swreq_pair.proofs.laws.places_have_one_pair.Goals as goal

pub returns : goal.returns
returns c = one_pair c.args.rules.now
