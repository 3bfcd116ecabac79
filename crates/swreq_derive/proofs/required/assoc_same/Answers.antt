use Rattle.std.proofs.Common.{◌∙◌, sym, true≢false}
use Rattle.swreq_derive.specs.declared.requirements.Requirement.TheVariants.{Same}
use Rattle.swreq_derive.proofs.InstanceLemmas.{same_proto, proto_same}
use Rattle.swreq_derive.proofs.ProtocolLemmas.{assoc_same_given, no_requirement, no_same, number_read, number_used, same_protocol, used_is_of}
use Rattle.swreq_derive.proofs.required.assoc_same.Goals as goal

pub returns-in-None-requirement_at : goal.returns-in-None-requirement_at
returns-in-None-requirement_at g c =
    let i = c.args.i.now in
    let none = no_requirement i.table.now (g.F.Facts.meaning i.facts.now) c.args.p c.args.n c.of_protocol.ensures
    c.in-None-requirement_at.ensures in
    ((λ e. absurd (true≢false (sym e))), λ w. absurd (none _ w.5))

pub returns-in-None-as_same-2 : goal.returns-in-None-as_same-2
returns-in-None-as_same-2 g c =
    let i = c.args.i.now in
    let m = g.F.Facts.meaning i.facts.now in
    let r = c.in-Some-requirement_at.r in
    let read = number_read m c.args.p c.args.n r c.of_protocol.ensures c.in-Some-requirement_at.ensures in (
      (λ e. absurd (true≢false (sym e))),
      λ w. absurd (no_same i.table.now m c.args.p c.args.n r i.premise i.conclusion read c.in-None-as_same-2.ensures w),
    )

pub are_for_self-requires-clause-from : goal.are_for_self-requires-clause-from
are_for_self-requires-clause-from g c =
    let i = c.args.i.now in
    let m = g.F.Facts.meaning i.facts.now in
    let used = number_used m c.args.p c.args.n c.in-Some-requirement_at.r (Same c.in-Some-as_same-2.u c.in-Some-as_same-2.v)
    c.of_protocol.ensures c.in-Some-requirement_at.ensures c.in-Some-as_same-2.ensures in
    used_is_of i.table.now m c.args.p c.args.n (Same c.in-Some-as_same-2.u c.in-Some-as_same-2.v) i.facts_over c.requires
    used

pub returns-then-eq : goal.returns-then-eq
returns-then-eq g c =
    let i = c.args.i.now in
    let m = g.F.Facts.meaning i.facts.now in
    let used = number_used m c.args.p c.args.n c.in-Some-requirement_at.r (Same c.in-Some-as_same-2.u c.in-Some-as_same-2.v)
    c.of_protocol.ensures c.in-Some-requirement_at.ensures c.in-Some-as_same-2.ensures in
    let w = assoc_same_given i.table.now m c.args.p c.in-Some.q c.args.n i.premise i.conclusion c.in-Some.t
    c.in-Some-as_same-2.u c.in-Some-as_same-2.v c.in-Some-as_same.left c.in-Some-as_same.right
    c.in-Some.ensures c.in-Some-as_same.ensures used in (
      (λ q. w.0 (same_proto _ _ (sym c.eq.ensures ∙ c.if-eq.true), (c.are_for_self.ensures.0 q).0, (c.are_for_self.ensures.0 q).1)),
      λ q. c.are_for_self.ensures.1 ((w.1 q).1, (w.1 q).2),
    )

pub returns-else-eq : goal.returns-else-eq
returns-else-eq g c = (
  (λ q. absurd (true≢false (sym q ∙ c.if-eq.false))),
  λ q.
      let same = same_protocol c.args.i.now.table.now c.args.p c.in-Some.q c.in-Some.t c.args.i.now.premise q.0 c.in-Some.ensures q.3 in
      absurd (true≢false (sym (proto_same _ _ same) ∙ sym c.eq.ensures ∙ c.if-eq.false)),
)
