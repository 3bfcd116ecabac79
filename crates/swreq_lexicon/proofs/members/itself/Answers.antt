use Rattle.swreq_lexicon.proofs.Rows.{none_standing}
use Rattle.swreq_lexicon.proofs.members.itself.Goals as goal

pub returns-in-None : goal.returns-in-None
returns-in-None c k p at = none_standing c.args.ordered.now c.args.protocol c.new.result c.new.ensures.none k p at c.in-None.ensures
