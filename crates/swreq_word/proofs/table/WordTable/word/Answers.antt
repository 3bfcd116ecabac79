use Rattle.swreq_word.proofs.Tables.{words_differ}
use Rattle.swreq_word.proofs.table.WordTable.word.Goals as goal

pub returns-clause-distinct : goal.returns-clause-distinct
returns-clause-distinct c = words_differ c.self.inside.words.keys c.args.self.now c.self.view_is c.len-count.ensures.unique
