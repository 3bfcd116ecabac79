use Rattle.swreq_reqsig.proofs.Signatures.{given_one}
use Rattle.swreq_reqsig.proofs.laws.given_family_is_one.Goals as goal

pub returns : goal.returns
returns c w kept others g h = given_one w kept others g h
