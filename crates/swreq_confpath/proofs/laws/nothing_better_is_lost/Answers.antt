use Rattle.swreq_confpath.proofs.Alike.{alike_itself, lead_alike}
use Rattle.swreq_confpath.proofs.Orders.{not_after_with}
use Rattle.swreq_confpath.proofs.laws.nothing_better_is_lost.Goals as goal

pub returns-clause-alike : goal.returns-clause-alike
returns-clause-alike c f params written protocols list a b d ns like leads =
    lead_alike f written params protocols list ns a b d like (alike_itself f written params protocols list a b like) leads

pub returns-clause-order : goal.returns-clause-order
returns-clause-order c = not_after_with
