use Rattle.std.proofs.Common.{Contains}
use Rattle.swreq_names.specs.Mentioned.{mentioned}
use Rattle.swreq_lexicon.specs.Texts.{protocol_names}
use Rattle.swreq_lexicon.proofs.RankLaws.{rank_is, assoc_is}
use Rattle.swreq_lexicon.proofs.laws.names_have_ranks.Goals as goal

pub returns-clause-protocols : goal.returns-clause-protocols
returns-clause-protocols c s x is = rank_is (Contains (protocol_names c.args.text.now s.protocols)) x.protocols is.protocols

pub returns-clause-names : goal.returns-clause-names
returns-clause-names c s x is = rank_is (Contains (mentioned c.args.text.now s)) x.names is.names

pub returns-clause-associated : goal.returns-clause-associated
returns-clause-associated c s x is d h = assoc_is x.associated d ((is.associated.same d).1 h)
