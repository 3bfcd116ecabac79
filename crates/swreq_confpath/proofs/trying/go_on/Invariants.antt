use Rattle.swreq_confpath.specs.Searches.{IsSearchAt}
use Rattle.swreq_confpath.proofs.trying.go_on.Given as goal

abbrev pub invariant-loop-k : goal.invariant-loop-k
invariant-loop-k l = IsSearchAt l.aim.sought l.tried l.turn.next l.turn.from.now l.k
