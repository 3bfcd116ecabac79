use Rattle.swreq_decl.proofs.AnsweringCalls.{one_list_of}
use Rattle.swreq_decl.proofs.laws.one_list_of_calls.Goals as goal

pub returns : goal.returns
returns c = one_list_of c.args.text.now c.args.from c.one_reading_from.ensures.one_list
