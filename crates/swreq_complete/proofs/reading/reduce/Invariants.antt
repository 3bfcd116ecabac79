use Rattle.swreq_rule.specs.swreq_word.Relations.{Chain}
use Rattle.swreq_rule.specs.Reduction.{ReductionStep}
use Rattle.swreq_rule.proofs.Remaining.{remaining}
use Rattle.swreq_complete.specs.Reading.{AreRead}
use Rattle.swreq_complete.proofs.reading.reduce.Given as goal

abbrev pub invariant-steps : goal.invariant-steps
invariant-steps l = record {
  chain : Chain (ReductionStep l.rules) l.initial.word.items l.word.items;
  read : AreRead l.rules l.word.items l.counts.items;
}

abbrev pub decreases-steps : goal.decreases-steps
decreases-steps l = remaining l.rules l.word.items
