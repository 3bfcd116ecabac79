use Rattle.std.proofs.Common.{◌∙◌, sym, true≢false}
use Rattle.swreq_derive.specs.declared.requirements.Requirement.TheVariants.{Conf}
use Rattle.swreq_derive.proofs.ProtocolLemmas.{assoc_conf_given, no_conf, no_requirement, number_read, number_used, used_is_of}
use Rattle.swreq_derive.proofs.required.assoc_conf.Goals as goal

pub returns-in-None-requirement_at : goal.returns-in-None-requirement_at
returns-in-None-requirement_at g c =
    let i = c.args.i.now in
    let none = no_requirement i.table.now (g.F.Facts.meaning i.facts.now) c.args.p c.args.n c.of_protocol.ensures
    c.in-None-requirement_at.ensures in
    ((λ e. absurd (true≢false (sym e))), λ w. absurd (none _ w.5))

pub returns-in-None-as_conf-2 : goal.returns-in-None-as_conf-2
returns-in-None-as_conf-2 g c =
    let i = c.args.i.now in
    let m = g.F.Facts.meaning i.facts.now in
    let r = c.in-Some-requirement_at.r in
    let read = number_read m c.args.p c.args.n r c.of_protocol.ensures c.in-Some-requirement_at.ensures in (
      (λ e. absurd (true≢false (sym e))),
      λ w. absurd (no_conf i.table.now m c.args.p c.args.n r i.premise i.conclusion read c.in-None-as_conf-2.ensures w),
    )

pub is_for_self-requires-clause-from : goal.is_for_self-requires-clause-from
is_for_self-requires-clause-from g c =
    let i = c.args.i.now in
    let m = g.F.Facts.meaning i.facts.now in
    let used = number_used m c.args.p c.args.n c.in-Some-requirement_at.r (Conf c.in-Some-as_conf-2.u c.in-Some-as_conf-2.w)
    c.of_protocol.ensures c.in-Some-requirement_at.ensures c.in-Some-as_conf-2.ensures in
    (used_is_of i.table.now m c.args.p c.args.n (Conf c.in-Some-as_conf-2.u c.in-Some-as_conf-2.w) i.facts_over c.requires
    used).0

pub returns-then-are_same_protocols : goal.returns-then-are_same_protocols
returns-then-are_same_protocols g c =
    let i = c.args.i.now in
    let m = g.F.Facts.meaning i.facts.now in
    let used = number_used m c.args.p c.args.n c.in-Some-requirement_at.r (Conf c.in-Some-as_conf-2.u c.in-Some-as_conf-2.w)
    c.of_protocol.ensures c.in-Some-requirement_at.ensures c.in-Some-as_conf-2.ensures in
    let w = assoc_conf_given i.table.now m c.args.p c.in-Some.q c.in-Some-as_conf.s c.in-Some-as_conf-2.w c.args.n i.premise
    i.conclusion c.in-Some.t c.in-Some-as_conf-2.u c.in-Some-as_conf.v c.in-Some.ensures c.in-Some-as_conf.ensures used in
    let e = c.are_same_protocols.ensures.0 c.if-are_same_protocols.true in
    ((λ q. w.0 (e.0, e.1, c.is_for_self.ensures.0 q)), λ q. c.is_for_self.ensures.1 (w.1 q).2)

pub returns-else-are_same_protocols : goal.returns-else-are_same_protocols
returns-else-are_same_protocols g c =
    let i = c.args.i.now in
    let m = g.F.Facts.meaning i.facts.now in
    let used = number_used m c.args.p c.args.n c.in-Some-requirement_at.r (Conf c.in-Some-as_conf-2.u c.in-Some-as_conf-2.w)
    c.of_protocol.ensures c.in-Some-requirement_at.ensures c.in-Some-as_conf-2.ensures in
    let w = assoc_conf_given i.table.now m c.args.p c.in-Some.q c.in-Some-as_conf.s c.in-Some-as_conf-2.w c.args.n i.premise
    i.conclusion c.in-Some.t c.in-Some-as_conf-2.u c.in-Some-as_conf.v c.in-Some.ensures c.in-Some-as_conf.ensures used in (
      (λ q. absurd (true≢false (sym q ∙ c.if-are_same_protocols.false))),
      λ q. absurd (true≢false (sym (c.are_same_protocols.ensures.1 ((w.1 q).0, (w.1 q).1)) ∙ c.if-are_same_protocols.false)),
    )
