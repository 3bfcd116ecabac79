use Rattle.swreq_subst.proofs.Ordering.{all_params, at_place}
use Rattle.swreq_subst.proofs.laws.arguments_stand_in_order.Goals as goal

pub returns-clause-place : goal.returns-clause-place
returns-clause-place c = at_place

pub returns-clause-count : goal.returns-clause-count
returns-clause-count c = all_params
