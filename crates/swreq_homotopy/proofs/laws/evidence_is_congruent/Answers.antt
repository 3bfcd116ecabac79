use Rattle.swreq_homotopy.proofs.Without.{evidence_is_congruent}
use Rattle.swreq_homotopy.proofs.laws.evidence_is_congruent.Goals as goal

pub returns : goal.returns
returns c = evidence_is_congruent c.args.rules.now c.args.keep.now
