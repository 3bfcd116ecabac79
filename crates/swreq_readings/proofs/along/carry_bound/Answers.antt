use Rattle.swreq_readings.proofs.ReadingLemmas.{bound_still, equal_ids_now}
use Rattle.swreq_derivation.proofs.DerivationLemmas.{continues_then}
use Rattle.swreq_readings.proofs.along.carry_bound.Goals as goal

pub add_same_bound-requires-clause-conforms : goal.add_same_bound-requires-clause-conforms
add_same_bound-requires-clause-conforms c =
    bound_still c.args.derivation.now c.add_symm.new.derivation c.in_ok-add_symm.ensures.continues.grows c.args.from c.args.bound
    c.requires.equal.0 c.requires.conforms

pub add_same_bound-requires-clause-equal : goal.add_same_bound-requires-clause-equal
add_same_bound-requires-clause-equal c =
    equal_ids_now c.args.derivation.now c.add_symm.new.derivation c.in_ok-add_symm.ensures.continues.grows c.args.to c.args.from
    c.requires.equal.1 c.requires.equal.0 c.in_ok-add_symm.ensures.equal

pub returns-clause-continues : goal.returns-clause-continues
returns-clause-continues c = continues_then c.in_ok-add_symm.ensures.continues c.add_same_bound.ensures.continues
