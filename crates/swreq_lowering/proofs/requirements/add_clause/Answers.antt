use Rattle.swreq_lowering.specs.Walk.{in_requirement}
use Rattle.swreq_lowering.specs.Words.{words_by}
use Rattle.swreq_lowering.proofs.Pieces.{adds_more}
use Rattle.swreq_lowering.proofs.requirements.add_clause.Goals as goal

pub loop-r-preserved : goal.loop-r-preserved
loop-r-preserved c =
    adds_more (in_requirement (words_by c.args.words.now) c.args.context) c.args.clause.now c.loop-r.r-index c.r-item.result
    c.args.table.now c.loop-r.table c.add_requirement.new.table
    c.args.into.now.items c.loop-r.into.items c.add_requirement.new.into.items c.loop-r-test.true c.r-item.is c.loop-r.invariant
    c.in_ok-add_requirement.ensures.adds
