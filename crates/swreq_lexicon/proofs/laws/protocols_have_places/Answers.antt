use Rattle.swreq_lexicon.proofs.RankLaws.{written_protocol, written_at, written_once, meant}
use Rattle.swreq_lexicon.proofs.laws.protocols_have_places.Goals as goal

pub returns-clause-protocols : goal.returns-clause-protocols
returns-clause-protocols c s x is = written_protocol c.args.text.now s x is

pub returns-clause-places : goal.returns-clause-places
returns-clause-places c s x is = written_at c.args.text.now s x is

pub returns-clause-meant : goal.returns-clause-meant
returns-clause-meant c s x is = meant c.args.text.now s x is

pub returns-clause-once : goal.returns-clause-once
returns-clause-once c s x is = written_once c.args.text.now s x is
