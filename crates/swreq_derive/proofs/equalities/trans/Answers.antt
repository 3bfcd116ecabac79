use Rattle.std.proofs.Common.{◌∙◌, sym, true≢false}
use Rattle.swreq_derive.proofs.InstanceLemmas.{trans_given, same_id, id_same}
use Rattle.swreq_derive.proofs.equalities.trans.Goals as goal

pub returns-then-eq : goal.returns-then-eq
returns-then-eq g c =
    let i = c.args.i.now in
    let w = trans_given i.table.now (g.F.Facts.meaning i.facts.now) i.first i.second i.conclusion c.in-Some.t c.in-Some.u
    c.in-Some-as_same.w c.in-Some-as_same.v i.distinct i.first_over i.second_over i.conclusion_over
    c.in-Some.ensures c.in-Some-as_same.ensures in
    ((λ e. w.0 (same_id _ _ (sym c.eq.ensures ∙ c.if-eq.true), c.is_equality.ensures.0 e)), λ q. c.is_equality.ensures.1 (w.1 q).1)

pub returns-else-eq : goal.returns-else-eq
returns-else-eq g c =
    let i = c.args.i.now in
    let w = trans_given i.table.now (g.F.Facts.meaning i.facts.now) i.first i.second i.conclusion c.in-Some.t c.in-Some.u
    c.in-Some-as_same.w c.in-Some-as_same.v i.distinct i.first_over i.second_over i.conclusion_over
    c.in-Some.ensures c.in-Some-as_same.ensures in (
      (λ e. absurd (true≢false (sym e ∙ c.if-eq.false))),
      λ q. absurd (true≢false (sym (id_same _ _ (w.1 q).0) ∙ sym c.eq.ensures ∙ c.if-eq.false)),
    )
