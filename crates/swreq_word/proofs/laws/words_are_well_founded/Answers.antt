use Rattle.swreq_lemmas.proofs.Induction as founded
use Rattle.swreq_word.proofs.WordsFounded.{words_founded}
use Rattle.swreq_word.proofs.laws.words_are_well_founded.Goals as goal

pub returns : goal.returns
returns c = record { accessible = words_founded; no_descent = founded.no_descent words_founded }
