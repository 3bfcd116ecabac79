use Rattle.swreq_reqsig.proofs.Passing.{within_reach}
use Rattle.swreq_reqsig.proofs.reaching.is_beyond.Goals as goal

pub returns-in-Conf-clause-within : goal.returns-in-Conf-clause-within
returns-in-Conf-clause-within c =
    within_reach c.args.marks.now c.is_marked.result c.args.requirement.now c.in-Conf.subject c.in-Conf.proto
    c.in-Conf.is c.is_marked.ensures
