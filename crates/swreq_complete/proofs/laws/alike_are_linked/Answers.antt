use Rattle.swreq_complete.proofs.Alike.{alike_are_linked, linked_are_alike}
use Rattle.swreq_complete.proofs.laws.alike_are_linked.Goals as goal

pub returns-clause-linked : goal.returns-clause-linked
returns-clause-linked c = alike_are_linked c.args.rules.now

pub returns-clause-alike : goal.returns-clause-alike
returns-clause-alike c = linked_are_alike c.args.rules.now
