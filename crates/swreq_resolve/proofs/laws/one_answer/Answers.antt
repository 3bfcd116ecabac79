use Rattle.swreq_resolve.proofs.Answers.{not_refused, one_refusal, some_answer}
use Rattle.swreq_resolve.proofs.laws.one_answer.Goals as goal

pub returns-clause-never_both : goal.returns-clause-never_both
returns-clause-never_both c = not_refused c.args.text.now c.args.skeleton.now

pub returns-clause-one : goal.returns-clause-one
returns-clause-one c = one_refusal c.args.text.now c.args.skeleton.now

pub returns-clause-some : goal.returns-clause-some
returns-clause-some c = some_answer c.args.text.now c.args.skeleton.now
