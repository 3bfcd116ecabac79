use Rattle.swreq_verify.proofs.OneOutput.{output_one}
use Rattle.swreq_verify.proofs.laws.one_output.Goals as goal

pub returns : goal.returns
returns c w second out other names h k = output_one w second out other names h k
