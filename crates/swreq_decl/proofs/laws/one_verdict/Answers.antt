use Rattle.swreq_decl.proofs.Answering.{verdict_of, one_refusal_of, not_both}
use Rattle.swreq_decl.proofs.laws.one_verdict.Goals as goal

pub returns-clause-some : goal.returns-clause-some
returns-clause-some c = verdict_of c.args.text.now

pub returns-clause-one : goal.returns-clause-one
returns-clause-one c = one_refusal_of c.args.text.now c.one_reading.ensures.one_list

pub returns-clause-never_both : goal.returns-clause-never_both
returns-clause-never_both c = not_both c.args.text.now c.one_reading.ensures.one_list
