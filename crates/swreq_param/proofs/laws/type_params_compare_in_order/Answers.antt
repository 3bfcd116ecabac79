use Rattle.std.proofs.Common.{ap, ◌∙◌}
use Rattle.swreq_param.specs.Owned.{as_term, owned_cmp}
use Rattle.std.specs.Ordering.{eq_by_cmp}
use Rattle.swreq_param.specs.OwnedLaws.{same_as_term, owned_same, owned_equivalent}
use Rattle.swreq_param.proofs.Comparing.{term_compares}
use Rattle.swreq_param.proofs.laws.type_params_compare_in_order.Goals as goal

pub returns-clause-order : goal.returns-clause-order
returns-clause-order c a b = term_compares (as_term a) (as_term b)

pub returns-clause-equal : goal.returns-clause-equal
returns-clause-equal c a b =
    ((λ h. ap as_term (owned_same a b h)), λ e. ap (λ x. eq_by_cmp owned_cmp x b) (same_as_term a b e) ∙ owned_equivalent.refl b)

pub returns-clause-same : goal.returns-clause-same
returns-clause-same c = same_as_term
