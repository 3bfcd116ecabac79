use Rattle.std.proofs.Common.{ℕ, ◌≡◌, None, Option, get_or, unwrap_or, ap, ◌∙◌, arith}
use Rattle.swreq_lexicon.specs.swreq_names.declared.signature.Signature.TheVariants.{Function}
use Rattle.swreq_lowering.specs.Signatures.{place_in}
use Rattle.swreq_world.proofs.Within.{place_within}
use Rattle.swreq_world.proofs.order.Order.function_place.Goals as goal

pub returns-clause-small : goal.returns-clause-small
returns-clause-small c =
    let order = c.self.inside.signatures.items in
    let e : c.place_at.result ≡ unwrap_or (place_in order (Function c.args.index)) 0 =
    c.place_at.ensures ∙ (λ j. unwrap_or (get_or (c.deref.ensures.value j) c.args.index None) 0)
    ∙ ap (λ (o : Option ℕ). unwrap_or o 0) (c.self.invariant.0.functions c.args.index) in
    let w = place_within order (Function c.args.index) 1048576 c.self.invariant.1 in
    omega arith
