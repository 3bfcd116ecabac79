use Rattle.std.proofs.Common.{◌∙◌, sym, true≢false}
use Rattle.swreq_derive.proofs.InstanceLemmas.{same_conf_given}
use Rattle.swreq_derive.proofs.equalities.same_conf.Goals as goal

pub returns-then-is_conformance : goal.returns-then-is_conformance
returns-then-is_conformance g c =
    let i = c.args.i.now in
    let w = same_conf_given i.table.now (g.F.Facts.meaning i.facts.now) c.args.p i.first i.second i.conclusion c.in-Some.t c.in-Some.u
    i.distinct i.first_over i.second_over i.conclusion_over c.in-Some.ensures in (
      (λ e. w.0 (c.is_conformance.ensures.0 c.if-is_conformance.true, c.is_conformance-then-is_conformance.ensures.0 e)),
      λ q. c.is_conformance-then-is_conformance.ensures.1 (w.1 q).1,
    )

pub returns-else-is_conformance : goal.returns-else-is_conformance
returns-else-is_conformance g c =
    let i = c.args.i.now in
    let w = same_conf_given i.table.now (g.F.Facts.meaning i.facts.now) c.args.p i.first i.second i.conclusion c.in-Some.t c.in-Some.u
    i.distinct i.first_over i.second_over i.conclusion_over c.in-Some.ensures in (
      (λ e. absurd (true≢false (sym e ∙ c.if-is_conformance.false))),
      λ q. absurd (true≢false (sym (c.is_conformance.ensures.1 (w.1 q).0) ∙ c.if-is_conformance.false)),
    )
