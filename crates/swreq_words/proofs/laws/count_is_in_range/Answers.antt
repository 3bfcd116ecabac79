use Rattle.swreq_words.proofs.InRange.{count_within_range}
use Rattle.swreq_words.proofs.laws.count_is_in_range.Goals as goal

pub returns : goal.returns
returns c = record { count = λ words line says. count_within_range says }
