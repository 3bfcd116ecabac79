use Rattle.swreq_grammar.proofs.Whole.{whole_takes, whole_matches}
use Rattle.swreq_grammar.proofs.laws.texts_are_read.Goals as goal

pub returns-clause-read : goal.returns-clause-read
returns-clause-read g c = whole_takes g.G.Language.number g.G.Language.grammar

pub returns-clause-text : goal.returns-clause-text
returns-clause-text g c = whole_matches g.G.Language.number g.G.Language.grammar
