use Rattle.swreq_lemmas.proofs.Induction as induction
use Rattle.swreq_lemmas.proofs.laws.numbers_are_well_founded.Goals as goal

pub returns : goal.returns
returns c = record { accessible = induction.numbers_founded; no_descent = induction.no_descent induction.numbers_founded }
