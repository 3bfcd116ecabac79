use Rattle.std.proofs.Common.{◌∙◌, map}
use Rattle.swreq_names.specs.Spaces.{of_params}
use Rattle.swreq_names.proofs.Pieces.{mapped_more}
use Rattle.swreq_names.proofs.kinds.nested_params.Goals as goal

pub loop-item-preserved : goal.loop-item-preserved
loop-item-preserved c =
    mapped_more (λ t. map (λ f. of_params c.args.text.now f.params) t.functions) c.args.structs.now c.loop-item.item-index
    c.item-item.result c.in_ok-params.params.items
    c.loop-item.found.items c.push.new.self.items c.loop-item-test.true c.item-item.is c.in_ok-push.ensures.items
    (c.in_ok-params.ensures ∙ (λ j. map (λ f. of_params c.args.text.now f.params) (c.items.ensures j))) c.loop-item.invariant
