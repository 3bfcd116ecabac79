use Rattle.swreq_rule.proofs.Search.{redex_step}
use Rattle.swreq_complete.proofs.indexed.Indexed.is_reducible.Goals as goal

pub returns-in-Some-clause-yes : goal.returns-in-Some-clause-yes
returns-in-Some-clause-yes c = redex_step c.args.self.now c.args.word.now c.in-Some.field-0.at c.in-Some.field-0.number c.in-Some.ensures
