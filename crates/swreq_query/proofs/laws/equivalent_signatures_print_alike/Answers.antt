use Rattle.swreq_query.proofs.PrintingAlike.{lines_alike}
use Rattle.swreq_query.proofs.laws.equivalent_signatures_print_alike.Goals as goal

pub returns : goal.returns
returns c w g h line other e same a b = lines_alike w g h line other e same a b
