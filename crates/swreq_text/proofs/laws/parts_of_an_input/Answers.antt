use Rattle.swreq_text.proofs.Divided.{has_divider, same_parts}
use Rattle.swreq_text.proofs.laws.parts_of_an_input.Goals as goal

pub returns-clause-one : goal.returns-clause-one
returns-clause-one c = same_parts

pub returns-clause-found : goal.returns-clause-found
returns-clause-found c = has_divider
