use Rattle.std.proofs.Common.{◌≡◌, ◌++◌, ◌∙◌}
use Rattle.swreq_param.specs.declared.ids.Step.TheVariants.{Name}
use Rattle.swreq_param.specs.Terms.{self}
use Rattle.swreq_param.specs.Terms.Term.{Member}
use Rattle.swreq_param.specs.Tables.{term_at}
use Rattle.swreq_param.proofs.Growing.{onward}
use Rattle.swreq_lowering.specs.declared.context.Context.TheVariants.{Protocol}
use Rattle.swreq_lowering.specs.Requirements.{in_bounds}
use Rattle.swreq_lowering.specs.Walk.{in_clause}
use Rattle.swreq_lowering.specs.Words.{words_by, name_of}
use Rattle.swreq_lowering.proofs.Growing.{extends_interned, adds_then, adds_later, adds_same, on_ok}
use Rattle.swreq_lowering.proofs.protocols.add_member.Goals as goal

pub returns-clause-adds : goal.returns-clause-adds
returns-clause-adds c =
    let w = words_by c.args.words.now in
    let p = c.in_ok-base.ensures.ok in
    let q = c.in_ok-term.ensures.ok in
    let is : term_at c.member.new.self c.in_ok-term.term ≡ Member self (Name (name_of w c.args.member.now.name)) =
    q.stands ∙ (λ i. Member (p.stands i) (Name (c.name_of.ensures i))) in
    on_ok c.add_clause.result
    (λ a. adds_same c.args.table.now c.add_clause.new.table c.args.into.now.items c.add_clause.new.into.items _ _
    (adds_then c.args.table.now c.add_bounds.new.table c.add_clause.new.table c.args.into.now.items c.add_bounds.new.into.items
    c.add_clause.new.into.items _ _
    (adds_later c.args.table.now c.member.new.self c.add_bounds.new.table c.args.into.now.items c.add_bounds.new.into.items _
    (onward c.args.table.now c.param.new.self c.member.new.self (extends_interned c.args.table.now c.param.new.self _ c.in_ok-base.base p)
    (extends_interned c.param.new.self c.member.new.self _ c.in_ok-term.term q))
    c.in_ok-add_bounds.ensures.adds)
    a)
    (λ i. in_bounds w Protocol (is i) c.args.member.now.name.start (c.items.ensures i) ++ in_clause w Protocol (c.items-2.ensures i)))
    c.add_clause.ensures.adds
