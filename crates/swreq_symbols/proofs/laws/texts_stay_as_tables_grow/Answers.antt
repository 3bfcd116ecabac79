use Rattle.swreq_symbols.proofs.Growing.{text_stays, world_stays}
use Rattle.swreq_symbols.proofs.laws.texts_stay_as_tables_grow.Goals as goal

pub returns-clause-text : goal.returns-clause-text
returns-clause-text c = text_stays

pub returns-clause-world : goal.returns-clause-world
returns-clause-world c = λ old new more w text. world_stays old new more w text.table
