use Rattle.std.proofs.Common.{◌++◌, refl}
use Rattle.swreq_grammar.proofs.Whole.{one_refused, text_not_refused, viable_front}
use Rattle.swreq_grammar.proofs.laws.one_refused_token.Goals as goal

pub returns-clause-first : goal.returns-clause-first
returns-clause-first g c front back rest r = viable_front g.G.Language.number g.G.Language.grammar front back r.0

pub returns-clause-one : goal.returns-clause-one
returns-clause-one g c = one_refused g.G.Language.number g.G.Language.grammar

pub returns-clause-none : goal.returns-clause-none
returns-clause-none g c before rest v m r =
    text_not_refused g.G.Language.number g.G.Language.grammar (before ++ rest) v m before rest refl r
