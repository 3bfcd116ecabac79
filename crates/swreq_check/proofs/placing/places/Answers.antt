use Rattle.std.proofs.Common.{◌≡◌, ◌∙◌, arith, length, subst, ℕ}
use Rattle.swreq_check.specs.Wanted.{ArePlaces, count_of, maker}
use Rattle.swreq_check.proofs.Placed.{none_placed}
use Rattle.swreq_check.proofs.placing.places.Goals as goal

pub loop-k-init : goal.loop-k-init
loop-k-init c =
    let w = c.args.text.now.world.now in
    none_placed (maker w c.args.content) (length w.signatures) c.in_ok-places.places.items
    (c.in_ok-places.ensures.count ∙ c.functions.ensures) c.in_ok-places.ensures.empty

pub returns : goal.returns
returns c =
    let w = c.args.text.now.world.now in
    let all : c.loop-k.k ≡ count_of w c.args.content = omega (arith, c.count_of-k-end.ensures, c.loop-k-test.false, c.loop-k.auto.k-end) in
    subst (λ (n : ℕ). ArePlaces (maker w c.args.content) (length w.signatures) n c.loop-k.places.items) all c.loop-k.invariant
