use Rattle.std.proofs.Common.{◌≡◌, ◌∙◌, ◌++◌, ◌∷◌, ◌+◌, [], ap, append_assoc, arith, drop, get_or, sym, false}
use Rattle.std.proofs.lemmas.List.{append-nil}
use Rattle.swreq_valid.specs.Flags.{either_of, is_either}
use Rattle.swreq_valid.proofs.Flagged.{either_from, none_of_either}
use Rattle.swreq_valid.proofs.flags.either.Goals as goal

pub loop-k-init : goal.loop-k-init
loop-k-init c = ap (λ z. z ++ either_of c.args.first.now c.args.second.now) c.new-flags.ensures.items

pub loop-k-preserved : goal.loop-k-preserved
loop-k-preserved c =
    let a = c.args.first.now in
    let b = c.args.second.now in
    let k = c.loop-k.k in
    let set = c.is_either-set.result in
    let left = either_of (drop (k + 1) a) (drop (k + 1) b) in
    let is : set ≡ is_either (get_or a k false) (get_or b k false) = c.is_either-set.ensures in
    ap (λ z. z ++ left) c.in_ok-push.ensures.items
    ∙ append_assoc c.loop-k.flags.items (set ∷ []) left
    ∙ ap (λ z. c.loop-k.flags.items ++ z)
    (ap (λ x. x ∷ left) is
    ∙ sym (either_from a b k false false c.loop-k-test.true (let m = c.loop-k-test.true in let e = c.requires in omega (arith, m, e))))
    ∙ c.loop-k.invariant

pub returns : goal.returns
returns c =
    sym (append-nil c.loop-k.flags.items)
    ∙ ap (λ z. c.loop-k.flags.items ++ z) (sym (none_of_either c.args.first.now c.args.second.now c.loop-k.k c.loop-k-test.false))
    ∙ c.loop-k.invariant
