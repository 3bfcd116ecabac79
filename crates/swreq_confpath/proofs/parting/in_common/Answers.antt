use Rattle.std.proofs.Common.{◌≡◌, take, length, min, subst, arith}
use Rattle.swreq_confpath.proofs.Spared.{all_in_common}
use Rattle.swreq_confpath.proofs.parting.in_common.Goals as goal

pub returns : goal.returns
returns c =
    let u = c.args.u.now in
    let v = c.args.v.now in
    let most : c.min-most.result ≡ min (length u) (length v) = omega arith in
    let last : c.loop-k.k ≡ c.min-most.result = omega arith in
    all_in_common u v c.min-most.result most (subst (λ n. take n u ≡ take n v) last c.loop-k.invariant)
