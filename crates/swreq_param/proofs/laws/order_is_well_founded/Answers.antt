use Rattle.swreq_lemmas.proofs.Induction.{no_descent}
use Rattle.swreq_param.proofs.Founded.{terms_founded}
use Rattle.swreq_param.proofs.laws.order_is_well_founded.Goals as goal

pub returns : goal.returns
returns c = record { accessible = terms_founded; no_descent = no_descent terms_founded }
