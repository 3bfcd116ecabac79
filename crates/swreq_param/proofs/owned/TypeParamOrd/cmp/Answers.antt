use Rattle.std.proofs.Common.{◌≡◌, ◌∙◌, length}
use Rattle.std.specs.Ordering.{ordering_then, nat_cmp}
use Rattle.std.specs.Cmp.Lexicographic.{slice_cmp}
use Rattle.swreq_param.specs.Comparison.{param_cmp, step_cmp}
use Rattle.swreq_param.specs.ComparisonLaws.{owned_is}
use Rattle.swreq_param.proofs.Steps.{step_is}
use Rattle.swreq_param.proofs.owned.TypeParamOrd.cmp.Goals as goal

pub returns : goal.returns
returns c =
    let a : c.cmp.result ≡ nat_cmp (length c.args.self.now.steps) (length c.args.other.now.steps) =
    c.cmp.ensures ∙ (λ i. nat_cmp (length (c.items-left.ensures i)) (length (c.items-right.ensures i))) in
    let b : c.cmp-2.result ≡ param_cmp c.args.self.now.head c.args.other.now.head = c.cmp-2.ensures in
    let d : c.cmp-3.result ≡ slice_cmp step_cmp c.args.self.now.steps c.args.other.now.steps =
    c.cmp-3.ensures ∙ (λ i. slice_cmp (λ x y. step_is x y i) (c.items-left.ensures i) (c.items-right.ensures i)) in
    c.then-2.ensures ∙ (λ i. ordering_then (c.then.ensures i) (d i))
    ∙ (λ i. ordering_then (ordering_then (a i) (b i)) (slice_cmp step_cmp c.args.self.now.steps c.args.other.now.steps))
    ∙ owned_is c.args.self.now.head c.args.other.now.head c.args.self.now.steps c.args.other.now.steps
