use Rattle.swreq_homotopy.proofs.Without.{evidence_links}
use Rattle.swreq_homotopy.proofs.laws.evidence_links.Goals as goal

pub returns : goal.returns
returns c = evidence_links c.args.rules.now c.args.keep.now
