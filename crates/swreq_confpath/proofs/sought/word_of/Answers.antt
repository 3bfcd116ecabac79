use Rattle.swreq_confpath.proofs.Standing.{none_less}
use Rattle.swreq_confpath.proofs.sought.word_of.Goals as goal

pub least-requires : goal.least-requires
least-requires c = none_less c.rules.result.now
