-- Requirements that `==` finds equal are the same.
use Rattle.std.proofs.Common.{◌≡◌, true, rules, subst}
use Rattle.std.specs.Bool.{Decides, IsTrue}
use Rattle.swreq_machine.specs.swreq_param.declared.ids.TermId.{TermId}
use Rattle.swreq_machine.specs.swreq_param.contracts.ids.TermIdPartialEq.TheImpl.{eq-value as id-value}
use Rattle.swreq_machine.specs.swreq_param.contracts.ids.TermIdEq.TheImpl.Laws.{laws-law as id-laws}
use Rattle.swreq_machine.specs.swreq_derive.contracts.requirements.RequirementPartialEq.TheImpl.{eq-value}
use Rattle.swreq_machine.specs.swreq_derive.contracts.requirements.RequirementEq.TheImpl.Laws.{laws-law}
use Rattle.swreq_machine.specs.swreq_derive.declared.requirements.Requirement.{Requirement}
use Rattle.swreq_machine.specs.swreq_derive.declared.requirements.Requirement.TheVariants.{Conf, Layout, Same}

requirement_same : (r q : Requirement) → eq-value.it r q ≡ true → r ≡ q
requirement_same (Conf t p) (Conf u o) h = search rules
requirement_same (Layout t) (Layout u) h = search rules
requirement_same (Same t u) (Same v w) h = search rules
requirement_same (Conf t p) (Layout u) h = search rules
requirement_same (Conf t p) (Same u v) h = search rules
requirement_same (Layout t) (Conf u p) h = search rules
requirement_same (Layout t) (Same u v) h = search rules
requirement_same (Same t u) (Conf v p) h = search rules
requirement_same (Same t u) (Layout v) h = search rules

pub requirements_decide : (r q : Requirement) → Decides (eq-value.it r q) (r ≡ q)
requirements_decide r q = ((λ h. requirement_same r q h), λ e. subst (λ z. IsTrue (eq-value.it r z)) e (laws-law.refl r))

id_same : (t u : TermId) → id-value.it t u ≡ true → t ≡ u
id_same t u h = search rules

pub ids_decide : (t u : TermId) → Decides (id-value.it t u) (t ≡ u)
ids_decide t u = ((λ h. id_same t u h), λ e. subst (λ z. IsTrue (id-value.it t z)) e (id-laws.refl t))
