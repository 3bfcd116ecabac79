use Rattle.swreq_derivation.proofs.DerivationLemmas.{continues_anyway, continues_then}
use Rattle.swreq_explain.proofs.explaining.lines_on.Goals as goal

pub returns-clause-continues : goal.returns-clause-continues
returns-clause-continues c = continues_then (continues_anyway c.in_ok-t.ensures.continues) c.in_ok-state_requirement.ensures.continues

pub returns-in_err-state_requirement-clause-continues : goal.returns-in_err-state_requirement-clause-continues
returns-in_err-state_requirement-clause-continues c =
    continues_then (continues_anyway c.in_ok-t.ensures.continues) c.in_err-state_requirement.ensures.continues
