use Rattle.swreq_candidates.proofs.CandidateLists.{off_rules, some_candidates}
use Rattle.swreq_candidates.proofs.laws.candidates_are_read_off.Goals as goal

pub returns-clause-rules : goal.returns-clause-rules
returns-clause-rules c m f s system r reduced = off_rules m f s system reduced r

pub returns-clause-list : goal.returns-clause-list
returns-clause-list c m f params list system ended = some_candidates m f params list ended system
