use Rattle.swreq_candidates.proofs.Completions.{generators_here, left_here, minimised_here, taken_here}
use Rattle.swreq_candidates.proofs.laws.generators_are_taken_from_candidates.Goals as goal

pub returns-clause-generators : goal.returns-clause-generators
returns-clause-generators c m f params list candidates taken ended = taken_here m f params list ended candidates taken

pub returns-clause-minimised : goal.returns-clause-minimised
returns-clause-minimised c m f params list candidates taken left ended all takes =
    left_here m f params list ended candidates taken all takes left

pub returns-clause-some_generators : goal.returns-clause-some_generators
returns-clause-some_generators c m f params list candidates ended = generators_here m f params list ended candidates

pub returns-clause-some_minimised : goal.returns-clause-some_minimised
returns-clause-some_minimised c m f params list candidates ended = minimised_here m f params list ended candidates
