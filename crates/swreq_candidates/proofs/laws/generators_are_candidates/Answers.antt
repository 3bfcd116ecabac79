use Rattle.swreq_candidates.proofs.Completions.{canonical_here, enough_here, generator_here}
use Rattle.swreq_candidates.proofs.ReadOff.{one_read_off}
use Rattle.swreq_candidates.proofs.laws.generators_are_candidates.Goals as goal

pub returns-clause-generator : goal.returns-clause-generator
returns-clause-generator c m f params list r ended = generator_here m f params list ended r

pub returns-clause-canonical : goal.returns-clause-canonical
returns-clause-canonical c m f params list r ended = canonical_here m f params list ended r

pub returns-clause-one : goal.returns-clause-one
returns-clause-one c = one_read_off

pub returns-clause-enough : goal.returns-clause-enough
returns-clause-enough c m f params list candidates ended = enough_here m f params list ended candidates
