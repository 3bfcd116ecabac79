use Rattle.swreq_grammar.proofs.Whole.{one_value}
use Rattle.swreq_grammar.proofs.laws.one_value.Goals as goal

pub returns : goal.returns
returns g c = one_value g.G.Language.number g.G.Language.grammar
