use Rattle.swreq_candidates.proofs.Completions.{one_minimised, same_here}
use Rattle.swreq_candidates.proofs.laws.minimised_lists_stand_for_lists.Goals as goal

pub returns-clause-same : goal.returns-clause-same
returns-clause-same c m f params list candidates taken minimised ended all takes =
    same_here m f params list ended candidates taken all takes minimised

pub returns-clause-equivalent : goal.returns-clause-equivalent
returns-clause-equivalent c = one_minimised
