use Rattle.std.proofs.Common.{◌≡◌, sym, ◌∙◌, ap, map}
use Rattle.std.specs.Iterator.Adapters.{rev_source}
use Rattle.std.specs.Slice.Iter.{iter_rest}
use Rattle.std.proofs.lemmas.Iterator.Adapters.{YieldsList-from_rev_slice}
use Rattle.std.proofs.lemmas.Iterator.Consumers.{YieldsList-end}
use Rattle.std.proofs.lemmas.Simd.{map-map}
use Rattle.swreq_path.specs.Inverse.{inverse_step}
use Rattle.swreq_path.proofs.paths.inverses.Goals as goal

pub returns : goal.returns
returns c =
    let steps = c.args.steps.now in
    let from : iter_rest (rev_source c.into_iter-step-iterator.result) ≡ steps =
    ap (λ s. iter_rest (rev_source s)) c.into_iter-step-iterator.ensures.into_iter_gives ∙ ap iter_rest c.rev-step-items.ensures.source
    ∙ c.iter.ensures.rest in
    let all = YieldsList-end (YieldsList-from_rev_slice steps from) c.loop-step.yielded c.loop-step.step-iterator c.loop-step.yielded_by
    c.next.result c.next.new.self c.in-None.is c.next.ensures.steps in
    c.loop-step.invariant ∙ sym (map-map inverse_step (λ step. step.now) c.loop-step.yielded) ∙ ap (map inverse_step) all.0
