use Rattle.swreq_verify.specs.Turns.{AreTurns}
use Rattle.swreq_verify.proofs.turns.turns_of.Given as goal

abbrev pub invariant-loop-k : goal.invariant-loop-k
invariant-loop-k l = AreTurns l.turns.items l.k
