use Rattle.std.proofs.Common.{◌∙◌, sym, true≢false}
use Rattle.swreq_derive.proofs.InstanceLemmas.{same_layout_given}
use Rattle.swreq_derive.proofs.equalities.same_layout.Goals as goal

pub returns-then-is_layout : goal.returns-then-is_layout
returns-then-is_layout g c =
    let i = c.args.i.now in
    let w = same_layout_given i.table.now (g.F.Facts.meaning i.facts.now) i.first i.second i.conclusion c.in-Some.t c.in-Some.u
    i.distinct i.first_over i.second_over i.conclusion_over c.in-Some.ensures in (
      (λ e. w.0 (c.is_layout.ensures.0 c.if-is_layout.true, c.is_layout-then-is_layout.ensures.0 e)),
      λ q. c.is_layout-then-is_layout.ensures.1 (w.1 q).1,
    )

pub returns-else-is_layout : goal.returns-else-is_layout
returns-else-is_layout g c =
    let i = c.args.i.now in
    let w = same_layout_given i.table.now (g.F.Facts.meaning i.facts.now) i.first i.second i.conclusion c.in-Some.t c.in-Some.u
    i.distinct i.first_over i.second_over i.conclusion_over c.in-Some.ensures in (
      (λ e. absurd (true≢false (sym e ∙ c.if-is_layout.false))),
      λ q. absurd (true≢false (sym (c.is_layout.ensures.1 (w.1 q).0) ∙ c.if-is_layout.false)),
    )
