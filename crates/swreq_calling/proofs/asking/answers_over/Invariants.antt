use Rattle.swreq_calling.specs.Ready.{IsReady}
use Rattle.swreq_calling.proofs.asking.answers_over.Given as goal

abbrev pub invariant-loop-k : goal.invariant-loop-k
invariant-loop-k l = IsReady l.table l.world l.protocols
