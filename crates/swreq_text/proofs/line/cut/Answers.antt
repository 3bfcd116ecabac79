use Rattle.swreq_text.proofs.Lined.{cut_at, cut_nowhere}
use Rattle.swreq_text.proofs.line.cut.Goals as goal

pub returns-in-None : goal.returns-in-None
returns-in-None c = cut_nowhere c.args.text.now c.in-None.ensures

pub returns-in-Some : goal.returns-in-Some
returns-in-Some c = cut_at c.args.text.now c.in-Some.at c.in-Some.ensures
