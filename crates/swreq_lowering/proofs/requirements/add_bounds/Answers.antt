use Rattle.swreq_param.specs.Tables.{term_at}
use Rattle.swreq_lowering.specs.Requirements.{in_bound}
use Rattle.swreq_lowering.specs.Words.{words_by}
use Rattle.swreq_lowering.proofs.Growing.{adds_same}
use Rattle.swreq_lowering.proofs.Pieces.{adds_more}
use Rattle.swreq_lowering.proofs.requirements.add_bounds.Goals as goal

pub loop-e-preserved : goal.loop-e-preserved
loop-e-preserved c =
    let w = words_by c.args.words.now in
    let same = c.loop-e.invariant.extends.stands c.args.subject.term c.requires in
    adds_more (in_bound w c.args.context (term_at c.args.table.now c.args.subject.term) c.args.subject.at) c.args.bounds.now
    c.loop-e.e-index c.e-item.result c.args.table.now c.loop-e.table c.add_bound.new.table
    c.args.into.now.items c.loop-e.into.items c.add_bound.new.into.items c.loop-e-test.true c.e-item.is c.loop-e.invariant
    (adds_same c.loop-e.table c.add_bound.new.table c.loop-e.into.items c.add_bound.new.into.items _ _ c.in_ok-add_bound.ensures.adds
    (λ i. in_bound w c.args.context (same i) c.args.subject.at c.e-item.result))
