use Rattle.std.proofs.Common.{◌≡◌, List, ap, subst}
use Rattle.swreq_param.specs.{Tables.{term_at}, Terms.{Term, Term.{Member}}}
use Rattle.swreq_correspondence.specs.swreq_derive.Derivation.TermRequirement.{Conforms}
use Rattle.swreq_derivation.proofs.DerivationLemmas.{continues_if}
use Rattle.swreq_births.proofs.members.conform_by_member.Goals as goal

pub returns-in_ok-add_requirement-in-Some-requirement_of_member-clause-continues :
    goal.returns-in_ok-add_requirement-in-Some-requirement_of_member-clause-continues
returns-in_ok-add_requirement-in-Some-requirement_of_member-clause-continues c =
    let is = subst (λ (z : List Term). term_at z c.args.t ≡ Member (term_at z c.in-Some.base) c.in-Some.member) c.table.ensures
    c.in-Some.ensures.1 in
    continues_if (λ b fits. (_, c.in-Some-requirement_of_member.ensures.written b fits, ap (λ z. Conforms z c.args.protocol) is))
    c.in_ok-add_requirement-in-Some-requirement_of_member.ensures.continues

pub returns-in_err-add_requirement-in-Some-requirement_of_member-clause-continues :
    goal.returns-in_err-add_requirement-in-Some-requirement_of_member-clause-continues
returns-in_err-add_requirement-in-Some-requirement_of_member-clause-continues c =
    let is = subst (λ (z : List Term). term_at z c.args.t ≡ Member (term_at z c.in-Some.base) c.in-Some.member) c.table.ensures
    c.in-Some.ensures.1 in
    continues_if (λ b fits. (_, c.in-Some-requirement_of_member.ensures.written b fits, ap (λ z. Conforms z c.args.protocol) is))
    c.in_err-add_requirement-in-Some-requirement_of_member.ensures.continues
