use Rattle.std.proofs.Common.{subst}
use Rattle.swreq_confpath.specs.Searches.{HasLeastWord}
use Rattle.swreq_confpath.proofs.sought.subject_from.Goals as goal

pub word_behind-requires-clause-base : goal.word_behind-requires-clause-base
word_behind-requires-clause-base c = subst (HasLeastWord c.args.sought.now) c.in-Conformance.is c.requires.least
