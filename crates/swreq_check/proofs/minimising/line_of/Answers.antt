use Rattle.std.proofs.Common.{[], inl}
use Rattle.swreq_query.specs.swreq_minimal.Told.AreParts.{no_part}
use Rattle.swreq_births.proofs.swreq_watch.Told.{grew_none}
use Rattle.swreq_check.proofs.OfChecks.{err_is}
use Rattle.swreq_check.proofs.minimising.line_of.Goals as goal

pub minimised_line-requires-clause-protocols : goal.minimised_line-requires-clause-protocols
minimised_line-requires-clause-protocols g c = c.requires.passed.passed.rules_are

pub minimised_line-requires-clause-machine : goal.minimised_line-requires-clause-machine
minimised_line-requires-clause-machine g c = record {
  signature = c.requires.f;
  machine = c.in_ok-machine.ensures.machine;
  params = c.in_ok-machine.ensures.params;
}

pub returns-in_err-machine-clause-failed : goal.returns-in_err-machine-clause-failed
returns-in_err-machine-clause-failed g c =
    rw (err_is c.from_residual.result _ c.from_residual.ensures.1) ([], inl no_part, grew_none (g.W.Watch.told c.args.watch.now))
