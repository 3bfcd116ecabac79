use Rattle.swreq_verify.proofs.Sectioned.{no_misfit}
use Rattle.swreq_verify.proofs.laws.misfits_are_no_sections.Goals as goal

pub returns : goal.returns
returns c = no_misfit
