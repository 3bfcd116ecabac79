use Rattle.std.proofs.Common.{◌∙◌, ◌++◌}
use Rattle.swreq_names.specs.Walk.{inherited_in_clause}
use Rattle.swreq_names.proofs.Pieces.{pieces_more}
use Rattle.swreq_names.proofs.inheritance.add_members.Goals as goal

pub loop-m-preserved : goal.loop-m-preserved
loop-m-preserved c =
    pieces_more (λ m. inherited_in_clause c.args.text.now c.args.d.now m.clause) c.args.members.now c.loop-m.m-index c.m-item.result
    c.args.into.now.items c.loop-m.into.items c.add_clause.new.into.items
    c.loop-m-test.true c.m-item.is c.loop-m.invariant
    (c.in_ok-add_clause.ensures ∙ (λ j. c.loop-m.into.items ++ inherited_in_clause c.args.text.now c.args.d.now (c.items.ensures j)))
