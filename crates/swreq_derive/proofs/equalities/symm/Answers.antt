use Rattle.swreq_derive.proofs.InstanceLemmas.{symm_given}
use Rattle.swreq_derive.proofs.equalities.symm.Goals as goal

pub returns-in-Some : goal.returns-in-Some
returns-in-Some g c =
    let i = c.args.i.now in
    let w = symm_given i.table.now (g.F.Facts.meaning i.facts.now) i.premise i.conclusion c.in-Some.t c.in-Some.u i.distinct
    i.premise_over i.conclusion_over c.in-Some.ensures in
    ((λ e. w.0 (c.is_equality.ensures.0 e)), λ q. c.is_equality.ensures.1 (w.1 q))
