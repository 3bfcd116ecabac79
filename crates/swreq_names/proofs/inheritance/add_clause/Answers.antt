use Rattle.swreq_names.specs.Walk.{inherited_in}
use Rattle.swreq_names.proofs.Pieces.{pieces_more}
use Rattle.swreq_names.proofs.inheritance.add_clause.Goals as goal

pub loop-r-preserved : goal.loop-r-preserved
loop-r-preserved c =
    pieces_more (inherited_in c.args.text.now c.args.d.now) c.args.clause.now c.loop-r.r-index c.r-item.result c.args.into.now.items
    c.loop-r.into.items c.add_requirement.new.into.items
    c.loop-r-test.true c.r-item.is c.loop-r.invariant c.in_ok-add_requirement.ensures
