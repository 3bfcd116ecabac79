use Rattle.swreq_decl.proofs.AnsweringCalls.{not_both, one_refusal_of, verdict_of}
use Rattle.swreq_decl.proofs.laws.one_verdict_on_calls.Goals as goal

pub returns-clause-some : goal.returns-clause-some
returns-clause-some c = verdict_of c.args.text.now c.args.from

pub returns-clause-one : goal.returns-clause-one
returns-clause-one c = one_refusal_of c.args.text.now c.args.from c.one_reading_from.ensures.one_list

pub returns-clause-never_both : goal.returns-clause-never_both
returns-clause-never_both c = not_both c.args.text.now c.args.from c.one_reading_from.ensures.one_list
