use Rattle.swreq_candidates.proofs.EvidenceDrops.{derives, drops}
use Rattle.swreq_candidates.proofs.evidence.evidence_is_enough.Goals as goal

pub returns-clause-derives : goal.returns-clause-derives
returns-clause-derives c m f params rest r fit ranges n plain = derives m f params rest plain fit ranges n r

pub returns-clause-drops : goal.returns-clause-drops
returns-clause-drops c m f params list generators front after left r fit ranges n told all =
    drops f params list generators told all m fit ranges n front after left r
