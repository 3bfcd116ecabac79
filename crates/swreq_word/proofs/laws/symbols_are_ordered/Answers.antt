use Rattle.swreq_word.specs.OrderLaws.{symbol_total}
use Rattle.swreq_word.proofs.laws.symbols_are_ordered.Goals as goal

pub returns-clause-total : goal.returns-clause-total
returns-clause-total c = symbol_total
