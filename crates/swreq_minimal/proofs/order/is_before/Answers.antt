use Rattle.std.proofs.Common.{◌≡◌, ◌∙◌, inr, sym, subst}
use Rattle.swreq_machine.specs.swreq_param.Order.{TermBefore}
use Rattle.swreq_machine.specs.swreq_param.Tables.{term_at}
use Rattle.swreq_machine.specs.swreq_derive.Facts.{requirement_of}
use Rattle.swreq_candidates.specs.swreq_canonical.Canonical as canonical
use Rattle.swreq_minimal.proofs.Inserting.{by_kinds, not_after}
use Rattle.swreq_minimal.proofs.order.is_before.Goals as goal

pub returns-in-Equal : goal.returns-in-Equal
returns-in-Equal c =
    let terms = c.args.table.now in
    let r = requirement_of terms c.args.r in
    let q = requirement_of terms c.args.q in
    let e : canonical.principal r ≡ canonical.principal q = sym (c.principal.ensures.stands terms)
    ∙ (c.in-Equal.ensures.order ∙ c.principal-2.ensures.stands terms) in (
      (λ h. inr (e, (c.is_kind_before.ensures terms).0 h)),
      λ b. (c.is_kind_before.ensures terms).1 (by_kinds r q e b),
    )

pub returns-in-Greater : goal.returns-in-Greater
returns-in-Greater c =
    let terms = c.args.table.now in
    let r = requirement_of terms c.args.r in
    let q = requirement_of terms c.args.q in
    let after : TermBefore (canonical.principal q) (canonical.principal r)
    = subst (λ z. TermBefore z (canonical.principal r)) (c.principal-2.ensures.stands terms)
    (subst (λ z. TermBefore (term_at terms c.principal-2.result) z) (c.principal.ensures.stands terms) c.in-Greater.ensures.order) in
    ((λ h. cc), λ b. absurd (not_after r q after b))
