use Rattle.std.proofs.Common.{◌∙◌, sym, true≢false}
use Rattle.swreq_derive.proofs.InstanceLemmas.{same_proto, proto_same}
use Rattle.swreq_derive.proofs.ProtocolLemmas.{assoc_name_given}
use Rattle.swreq_derive.proofs.associated.assoc_name.Goals as goal

pub returns-in-None-declared : goal.returns-in-None-declared
returns-in-None-declared g c = ((λ e. absurd (true≢false (sym e))), λ w. absurd (c.in-None-declared.ensures w.1 w.4))

pub returns-then-eq : goal.returns-then-eq
returns-then-eq g c =
    let i = c.args.i.now in
    let w = assoc_name_given i.table.now
    (g.F.Facts.meaning i.facts.now) c.args.p c.in-Some.q c.args.a c.in-Some-declared.field-0 i.premise i.conclusion c.in-Some.t
    c.in-Some-as_valid.v c.in-Some.ensures c.in-Some-as_valid.ensures c.in-Some-declared.ensures in
    ((λ e. w.0 (same_proto _ _ (sym c.eq.ensures ∙ c.if-eq.true), c.is_member.ensures.0 e)), λ q. c.is_member.ensures.1 (w.1 q).1)

pub returns-else-eq : goal.returns-else-eq
returns-else-eq g c =
    let i = c.args.i.now in
    let w = assoc_name_given i.table.now
    (g.F.Facts.meaning i.facts.now) c.args.p c.in-Some.q c.args.a c.in-Some-declared.field-0 i.premise i.conclusion c.in-Some.t
    c.in-Some-as_valid.v c.in-Some.ensures c.in-Some-as_valid.ensures c.in-Some-declared.ensures in (
      (λ e. absurd (true≢false (sym e ∙ c.if-eq.false))),
      λ q. absurd (true≢false (sym (proto_same _ _ (w.1 q).0) ∙ sym c.eq.ensures ∙ c.if-eq.false)),
    )
