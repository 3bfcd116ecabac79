use Rattle.swreq_calling.proofs.asking.answers.Goals as goal

pub resolve-requires-clause-stands : goal.resolve-requires-clause-stands
resolve-requires-clause-stands g c = (c.parse.ensures.ok c.in_ok-skeleton.skeleton).0 c.in_ok-skeleton.was
