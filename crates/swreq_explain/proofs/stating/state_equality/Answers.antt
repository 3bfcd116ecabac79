use Rattle.swreq_derivation.proofs.DerivationLemmas.{continues_then}
use Rattle.swreq_explain.proofs.stating.state_equality.Goals as goal

pub returns-in_ok-reflect-clause-continues : goal.returns-in_ok-reflect-clause-continues
returns-in_ok-reflect-clause-continues c = continues_then c.in_ok-t.ensures.continues c.in_ok-reflect.ensures.continues

pub returns-in_err-reflect-clause-continues : goal.returns-in_err-reflect-clause-continues
returns-in_err-reflect-clause-continues c = continues_then c.in_ok-t.ensures.continues c.in_err-reflect.ensures.continues
