use Rattle.std.proofs.Common.{◌∙◌, map}
use Rattle.swreq_names.specs.Spaces.{declarations}
use Rattle.swreq_names.proofs.Pieces.{mapped_more}
use Rattle.swreq_names.proofs.kinds.nested.Goals as goal

pub loop-item-preserved : goal.loop-item-preserved
loop-item-preserved c =
    mapped_more (λ t. declarations c.args.text.now (map (λ f. f.name) t.functions)) c.args.structs.now c.loop-item.item-index
    c.item-item.result c.in_ok-names.names
    c.loop-item.found.items c.push.new.self.items c.loop-item-test.true c.item-item.is c.in_ok-push.ensures.items
    (c.in_ok-names.ensures ∙ (λ j. declarations c.args.text.now (map (λ f. f.name) (c.items.ensures j)))) c.loop-item.invariant
