use Rattle.swreq_decl.proofs.Answering.{one_skeleton}
use Rattle.swreq_decl.proofs.laws.one_skeleton.Goals as goal

pub returns : goal.returns
returns c = one_skeleton c.args.text.now c.one_reading.ensures.one_list
