use Rattle.swreq_rule.proofs.Remaining.{remaining}
use Rattle.swreq_path.specs.Reductions.{StepsReduce}
use Rattle.swreq_complete.proofs.paths.reduction_path.Given as goal

abbrev pub invariant-steps : goal.invariant-steps
invariant-steps l = StepsReduce l.rules l.steps.items l.word l.reached.items

abbrev pub decreases-steps : goal.decreases-steps
decreases-steps l = remaining l.rules l.reached.items
