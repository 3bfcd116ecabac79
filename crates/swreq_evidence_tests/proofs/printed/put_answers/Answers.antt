use Rattle.std.proofs.Common.{subst}
use Rattle.swreq_machine.specs.swreq_map.Follows.{IsMapOf}
use Rattle.swreq_evidence_tests.proofs.printed.put_answers.Goals as goal

pub put_each-requires-clause-map : goal.put_each-requires-clause-map
put_each-requires-clause-map c = subst (λ rules. IsMapOf rules c.in_ok-map.map) c.rules.ensures c.in_ok-map.ensures.map
