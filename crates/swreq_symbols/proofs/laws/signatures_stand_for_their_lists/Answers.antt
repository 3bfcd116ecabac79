use Rattle.swreq_symbols.proofs.OfText.{are_facts, facts_are, source_is}
use Rattle.swreq_symbols.proofs.laws.signatures_stand_for_their_lists.Goals as goal

pub returns-clause-of_table : goal.returns-clause-of_table
returns-clause-of_table c = λ terms w. are_facts w terms

pub returns-clause-facts : goal.returns-clause-facts
returns-clause-facts c = λ terms w. facts_are w terms

pub returns-clause-list : goal.returns-clause-list
returns-clause-list c = λ terms w. source_is w terms
