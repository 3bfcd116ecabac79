use Rattle.std.proofs.Common.{◌-◌, length}
use Rattle.swreq_verify.proofs.BodyCut.{IsBodyUpTo}
use Rattle.swreq_verify.proofs.sections.cut_body.Given as goal

abbrev pub invariant-loop-first : goal.invariant-loop-first
invariant-loop-first l = IsBodyUpTo l.text l.at

abbrev pub decreases-loop-first : goal.decreases-loop-first
decreases-loop-first l = length l.text - l.at
