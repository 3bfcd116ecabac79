use Rattle.swreq_lowering.specs.Requirements.{in_bounds}
use Rattle.swreq_lowering.specs.Words.{words_by}
use Rattle.swreq_lowering.proofs.Growing.{adds_later, adds_same, on_ok}
use Rattle.swreq_lowering.proofs.requirements.add_subject.Goals as goal

pub returns-clause-adds : goal.returns-clause-adds
returns-clause-adds c =
    let s = c.in_ok-t.ensures.spells in
    on_ok c.add_bounds.result
    (λ a. adds_same c.args.table.now c.add_bounds.new.table c.args.into.now.items c.add_bounds.new.into.items _ _
    (adds_later c.args.table.now c.spell.new.table c.add_bounds.new.table c.args.into.now.items c.add_bounds.new.into.items _ s.extends a)
    (λ i. in_bounds (words_by c.args.words.now) c.args.context (s.stands i) c.args.subject.now.head.start c.args.bounds.now))
    c.add_bounds.ensures.adds
