use Rattle.swreq_grammar.proofs.Whole.{refused_whole, whole_refusal}
use Rattle.swreq_grammar.proofs.laws.refusals_are_read.Goals as goal

pub returns-clause-read : goal.returns-clause-read
returns-clause-read g c = refused_whole g.G.Language.number g.G.Language.grammar

pub returns-clause-refused : goal.returns-clause-refused
returns-clause-refused g c = whole_refusal g.G.Language.number g.G.Language.grammar
