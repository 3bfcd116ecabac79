use Rattle.std.proofs.Common.{◌∙◌, sym, true≢false}
use Rattle.swreq_derive.proofs.ProtocolLemmas.{same_decl_given}
use Rattle.swreq_derive.proofs.associated.same_decl.Goals as goal

pub returns-in-None-declared : goal.returns-in-None-declared
returns-in-None-declared g c = ((λ e. absurd (true≢false (sym e))), λ w. absurd (c.in-None-declared.ensures w.2 w.5))

pub returns-then-is_conformance : goal.returns-then-is_conformance
returns-then-is_conformance g c =
    let i = c.args.i.now in
    let w = same_decl_given i.table.now (g.F.Facts.meaning i.facts.now) c.args.p c.args.a c.in-Some-declared.d i.first i.second i.conclusion
    c.in-Some.v c.in-Some.w c.in-Some-as_same.left c.in-Some-as_same.right i.distinct (g.met.F.Facts.one_to_one i.facts.now)
    i.first_over i.second_over c.in-Some.ensures c.in-Some-as_same.ensures c.in-Some-declared.ensures in (
      (λ e. w.0 (c.is_conformance.ensures.0 c.if-is_conformance.true, (c.are_members.ensures.0 e).0, (c.are_members.ensures.0 e).1)),
      λ q. c.are_members.ensures.1 ((w.1 q).1, (w.1 q).2),
    )

pub returns-else-is_conformance : goal.returns-else-is_conformance
returns-else-is_conformance g c =
    let i = c.args.i.now in
    let w = same_decl_given i.table.now (g.F.Facts.meaning i.facts.now) c.args.p c.args.a c.in-Some-declared.d i.first i.second i.conclusion
    c.in-Some.v c.in-Some.w c.in-Some-as_same.left c.in-Some-as_same.right i.distinct (g.met.F.Facts.one_to_one i.facts.now)
    i.first_over i.second_over c.in-Some.ensures c.in-Some-as_same.ensures c.in-Some-declared.ensures in (
      (λ e. absurd (true≢false (sym e ∙ c.if-is_conformance.false))),
      λ q. absurd (true≢false (sym (c.is_conformance.ensures.1 (w.1 q).0) ∙ c.if-is_conformance.false)),
    )
