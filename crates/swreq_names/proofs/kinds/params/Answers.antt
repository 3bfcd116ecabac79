use Rattle.std.proofs.Common.{◌∙◌}
use Rattle.swreq_names.specs.Spaces.{of_params}
use Rattle.swreq_names.proofs.Pieces.{mapped_more}
use Rattle.swreq_names.proofs.kinds.params.Goals as goal

pub loop-function-preserved : goal.loop-function-preserved
loop-function-preserved c =
    mapped_more (λ f. of_params c.args.text.now f.params) c.args.functions.now c.loop-function.function-index
    c.function-item.result c.in_ok-names.names
    c.loop-function.found.items c.push.new.self.items c.loop-function-test.true c.function-item.is c.in_ok-push.ensures.items
    (c.in_ok-names.ensures ∙ (λ j. of_params c.args.text.now (c.items.ensures j))) c.loop-function.invariant
