use Rattle.std.proofs.Common.{refl}
use Rattle.swreq_pair.proofs.WorkedPairs.{have_pairs}
use Rattle.swreq_pair.proofs.laws.pairs_go_by_numbers.Goals as goal

pub returns-clause-pairs : goal.returns-clause-pairs
returns-clause-pairs c = have_pairs c.args.first.now c.args.second.now c.args.third.now

pub returns-clause-order : goal.returns-clause-order
returns-clause-order c = (refl, (refl, (refl, (refl, (refl, tt)))))
