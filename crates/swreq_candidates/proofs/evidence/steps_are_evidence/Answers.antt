use Rattle.swreq_candidates.proofs.EvidenceDrops.{links}
use Rattle.swreq_candidates.proofs.evidence.steps_are_evidence.Goals as goal

pub returns : goal.returns
returns c m f params rest rules u v each = links m f params rest rules each
