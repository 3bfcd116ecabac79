use Rattle.swreq_rule.specs.Reduction.{NoneEarlier}
use Rattle.swreq_complete.proofs.reducing.first_redex.Given as goal

abbrev pub invariant-loop-at : goal.invariant-loop-at
invariant-loop-at l = NoneEarlier l.rules l.word l.at
