use Rattle.std.proofs.Common.{Contains, refl, inl, inr, lit<}
use Rattle.swreq_derive.specs.Derivation.{Derivable, TermRequirement}
use Rattle.swreq_derive.specs.Derivation.Derives.{generic, assoc_bind, symm, trans}
use Rattle.swreq_derive.specs.Derivation.TermRequirement.{Equals}
use Rattle.swreq_derive.specs.Derivation.TermStatement.{Requires}
use Rattle.swreq_derive.specs.Reduced.{IsReduced, IsReducedTypeOf}
use Rattle.swreq_derive.specs.Worked.{bound, of_one, τ_0_0, A_of_P, A_of_Q, shared, shared_f}
use Rattle.swreq_derive.proofs.Lengths.{reduced_first}
use Rattle.swreq_derive.proofs.WorkedDerivations.{shared_has_no_same_type, shared_to_p, shared_to_q}
use Rattle.swreq_derive.proofs.swreq_lemmas.Members.{each_member}
use Rattle.swreq_canonical.specs.Generators.{IsEarlier}
use Rattle.swreq_derive.proofs.FirstParam.{first_reduced}
use Rattle.swreq_canonical.proofs.worked.one_name_in_two_protocols.Goals as goal

equal : Derivable shared (of_one shared_f) (Requires (Equals (bound τ_0_0 A_of_P) (bound τ_0_0 A_of_Q)))
equal = trans (assoc_bind shared_to_p (0, lit< tt, refl)) (symm (assoc_bind shared_to_q (1, lit< tt, refl)))

param_reduced : IsReduced shared (of_one shared_f) τ_0_0
param_reduced = first_reduced shared (of_one shared_f) (generic (0, lit< tt, refl))

reduced : IsReducedTypeOf shared (of_one shared_f) (bound τ_0_0 A_of_Q) (bound τ_0_0 A_of_P)
reduced = reduced_first shared (of_one shared_f) (bound τ_0_0 A_of_Q) (bound τ_0_0 A_of_P) shared_has_no_same_type (symm equal) (tt, refl)

not_reduced : IsReduced shared (of_one shared_f) (bound τ_0_0 A_of_Q) → ⊥
not_reduced r = r.least (bound τ_0_0 A_of_P) (symm equal) (inr (refl, inr (refl, lit< tt)))

pub returns-clause-bounds : goal.returns-clause-bounds
returns-clause-bounds c = (equal, (param_reduced, not_reduced, reduced))

pub returns-clause-unbound : goal.returns-clause-unbound
returns-clause-unbound c h = h.1.0

-- the conformances come before the equality, and derive it
abbrev E : TermRequirement
E = Equals (bound τ_0_0 A_of_P) (bound τ_0_0 A_of_Q)

earlier : (r : TermRequirement) → Contains shared_f r → IsEarlier shared (of_one shared_f) E r
earlier = each_member (IsEarlier shared (of_one shared_f) E) shared_f
    (((shared_to_p, param_reduced), inl (inl (lit< tt))), (((shared_to_q, param_reduced), inl (inl (lit< tt))), tt))

pub returns-clause-no_generator : goal.returns-clause-no_generator
returns-clause-no_generator c h = h.1 (shared_f, earlier, equal)
