use Rattle.swreq_word.specs.OrderLaws.{word_total, word_exact}
use Rattle.swreq_word.proofs.laws.words_are_ordered.Goals as goal

pub returns : goal.returns
returns c = record { total = word_total; exact = word_exact }
