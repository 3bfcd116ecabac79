use Rattle.std.proofs.Common.{◌∙◌}
use Rattle.swreq_names.specs.Spaces.{of_params}
use Rattle.swreq_names.proofs.Pieces.{mapped_more}
use Rattle.swreq_names.proofs.kinds.struct_params.Goals as goal

pub loop-item-preserved : goal.loop-item-preserved
loop-item-preserved c =
    mapped_more (λ t. of_params c.args.text.now t.params) c.args.structs.now c.loop-item.item-index c.item-item.result c.in_ok-names.names
    c.loop-item.found.items c.push.new.self.items c.loop-item-test.true c.item-item.is c.in_ok-push.ensures.items
    (c.in_ok-names.ensures ∙ (λ j. of_params c.args.text.now (c.items.ensures j))) c.loop-item.invariant
