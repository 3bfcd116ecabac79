use Rattle.swreq_query.proofs.PrintingAlike.{equivalent_by_one_line, params_of_one_line}
use Rattle.swreq_query.proofs.laws.signatures_that_print_alike_are_equivalent.Goals as goal

pub returns-clause-params : goal.returns-clause-params
returns-clause-params c w g h line of i j a b = params_of_one_line c.args.text.now w of g h i j line a b

pub returns-clause-equivalent : goal.returns-clause-equivalent
returns-clause-equivalent c limits w g h line of i j ended also_ended a b =
    equivalent_by_one_line c.args.text.now w of g h i j line a b limits ended also_ended
