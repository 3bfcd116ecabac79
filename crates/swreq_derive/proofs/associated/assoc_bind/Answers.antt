use Rattle.std.proofs.Common.{◌∙◌, sym, true≢false}
use Rattle.swreq_derive.proofs.InstanceLemmas.{same_proto, proto_same}
use Rattle.swreq_derive.proofs.ProtocolLemmas.{assoc_bind_given}
use Rattle.swreq_derive.proofs.associated.assoc_bind.Goals as goal

pub returns-in-None-declared : goal.returns-in-None-declared
returns-in-None-declared g c = ((λ e. absurd (true≢false (sym e))), λ w. absurd (c.in-None-declared.ensures w.1 w.4))

pub returns-then-eq : goal.returns-then-eq
returns-then-eq g c =
    let i = c.args.i.now in
    let w = assoc_bind_given i.table.now (g.F.Facts.meaning i.facts.now) c.args.p c.in-Some.q c.args.a
    c.in-Some-declared.d i.premise i.conclusion c.in-Some.t c.in-Some-as_same.left c.in-Some-as_same.right
    (g.met.F.Facts.one_to_one i.facts.now) c.in-Some.ensures c.in-Some-as_same.ensures c.in-Some-declared.ensures in (
      (λ e. w.0 (same_proto _ _ (sym c.eq.ensures ∙ c.if-eq.true), (c.are_members.ensures.0 e).0, (c.are_members.ensures.0 e).1)),
      λ q. c.are_members.ensures.1 ((w.1 q).1, (w.1 q).2),
    )

pub returns-else-eq : goal.returns-else-eq
returns-else-eq g c =
    let i = c.args.i.now in
    let w = assoc_bind_given i.table.now (g.F.Facts.meaning i.facts.now) c.args.p c.in-Some.q c.args.a
    c.in-Some-declared.d i.premise i.conclusion c.in-Some.t c.in-Some-as_same.left c.in-Some-as_same.right
    (g.met.F.Facts.one_to_one i.facts.now) c.in-Some.ensures c.in-Some-as_same.ensures c.in-Some-declared.ensures in (
      (λ e. absurd (true≢false (sym e ∙ c.if-eq.false))),
      λ q. absurd (true≢false (sym (proto_same _ _ (w.1 q).0) ∙ sym c.eq.ensures ∙ c.if-eq.false)),
    )
