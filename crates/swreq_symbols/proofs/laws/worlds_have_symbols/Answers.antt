use Rattle.swreq_symbols.proofs.Symbols.{ranks_law, symbols_law, text_law}
use Rattle.swreq_symbols.proofs.laws.worlds_have_symbols.Goals as goal

pub returns-clause-symbols : goal.returns-clause-symbols
returns-clause-symbols c = symbols_law

pub returns-clause-of_text : goal.returns-clause-of_text
returns-clause-of_text c = text_law

pub returns-clause-ranked : goal.returns-clause-ranked
returns-clause-ranked c = ranks_law
