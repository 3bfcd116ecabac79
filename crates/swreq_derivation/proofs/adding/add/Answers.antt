use Rattle.swreq_derivation.proofs.adding.add.Goals as goal

pub returns-clause-continues : goal.returns-clause-continues
returns-clause-continues c = c.push.ensures.continues _ c.in_ok-numbers.ensures
