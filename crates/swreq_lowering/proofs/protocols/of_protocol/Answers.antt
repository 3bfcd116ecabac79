use Rattle.std.proofs.Common.{◌++◌, ◌∙◌, sym}
use Rattle.swreq_lowering.specs.declared.context.Context.TheVariants.{Protocol}
use Rattle.swreq_lowering.specs.Requirements.{in_bounds}
use Rattle.swreq_lowering.specs.Walk.{in_clause, in_members}
use Rattle.swreq_lowering.specs.Words.{words_by}
use Rattle.swreq_lowering.proofs.Growing.{extends_interned, adds_then, adds_later, adds_same, lists_all}
use Rattle.swreq_lowering.proofs.Walked.{protocol_walked}
use Rattle.swreq_lowering.proofs.protocols.of_protocol.Goals as goal

pub returns-clause-lists : goal.returns-clause-lists
returns-clause-lists c =
    let w = words_by c.args.words.now in
    let p = c.in_ok-base.ensures.ok in
    lists_all c.args.table.now c.add_members.new.table c.new-into.result.items c.add_members.new.into.items _ c.new-into.ensures.items
    (adds_same c.args.table.now c.add_members.new.table c.new-into.result.items c.add_members.new.into.items _ _
    (adds_then c.args.table.now c.add_bounds.new.table c.add_members.new.table c.new-into.result.items c.add_bounds.new.into.items
    c.add_members.new.into.items _ _
    (adds_later c.args.table.now c.param.new.self c.add_bounds.new.table c.new-into.result.items c.add_bounds.new.into.items _
    (extends_interned c.args.table.now c.param.new.self _ c.in_ok-base.base p) c.in_ok-add_bounds.ensures.adds)
    (adds_then c.add_bounds.new.table c.add_clause.new.table c.add_members.new.table c.add_bounds.new.into.items c.add_clause.new.into.items
    c.add_members.new.into.items _ _ c.in_ok-add_clause.ensures.adds c.in_ok-add_members.ensures.adds))
    ((λ i. in_bounds w Protocol (p.stands i) c.args.protocol.now.name.start (c.items.ensures i)
    ++ (in_clause w Protocol (c.items-2.ensures i) ++ in_members w (c.items-3.ensures i)))
    ∙ sym (protocol_walked w c.args.protocol.now)))
