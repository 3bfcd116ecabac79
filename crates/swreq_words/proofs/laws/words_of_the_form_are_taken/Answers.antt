use Rattle.swreq_words.proofs.Lines.{takes_of, says_form}
use Rattle.swreq_words.proofs.laws.words_of_the_form_are_taken.Goals as goal

pub returns : goal.returns
returns c = λ words line says. takes_of words (says_form words line says)
