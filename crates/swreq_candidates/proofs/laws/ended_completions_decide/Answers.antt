use Rattle.swreq_canonical.specs.swreq_derive.Derivation.TermStatement.{Requires}
use Rattle.swreq_candidates.proofs.Completions.{cuts, derivable_here, firsts_here, reduced_here}
use Rattle.swreq_candidates.proofs.laws.ended_completions_decide.Goals as goal

pub returns-clause-reduced : goal.returns-clause-reduced
returns-clause-reduced c = reduced_here

pub returns-clause-first : goal.returns-clause-first
returns-clause-first c = firsts_here

pub returns-clause-decided : goal.returns-clause-decided
returns-clause-decided c = derivable_here

pub returns-clause-lists : goal.returns-clause-lists
returns-clause-lists c m f params candidates ended rs r sub = derivable_here m f params rs (ended rs sub) (Requires r)

pub returns-clause-cut : goal.returns-clause-cut
returns-clause-cut c = cuts
