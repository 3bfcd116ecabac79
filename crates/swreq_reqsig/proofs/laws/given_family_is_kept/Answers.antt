use Rattle.swreq_reqsig.proofs.Signatures.{given_kept}
use Rattle.swreq_reqsig.proofs.laws.given_family_is_kept.Goals as goal

pub returns : goal.returns
returns c w kept g = given_kept w kept g
