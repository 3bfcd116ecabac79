use Rattle.swreq_confpath.proofs.Texting.{path_numbers}
use Rattle.swreq_confpath.proofs.laws.paths_have_texts.Goals as goal

pub returns : goal.returns
returns c f params written t p first steps path = path_numbers f params written t p first steps path
