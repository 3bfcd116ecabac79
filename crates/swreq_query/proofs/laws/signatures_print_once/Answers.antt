use Rattle.swreq_query.proofs.PrintingOnce.{line_once, named_once, system_once}
use Rattle.swreq_query.proofs.laws.signatures_print_once.Goals as goal

pub returns-clause-line : goal.returns-clause-line
returns-clause-line c w g line other a b = line_once w g line other a b

pub returns-clause-named : goal.returns-clause-named
returns-clause-named c w g line other a b = named_once w g line other a b

pub returns-clause-system : goal.returns-clause-system
returns-clause-system c w g text other a b = system_once w g text other a b
