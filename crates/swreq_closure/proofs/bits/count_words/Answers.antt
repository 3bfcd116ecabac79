use Rattle.std.proofs.Common.{◌∙◌, ◌+◌, ◌*◌, ◌^◌, ◌<◌, get_or, sym, ap, arith, rules}
use Rattle.std.specs.Int.Count.{ones}
use Rattle.swreq_closure.specs.Bits.{has}
use Rattle.swreq_closure.proofs.Counts.{count_alone, count_le}
use Rattle.swreq_closure.proofs.bits.count_words.Goals as goal

pub loop-k-preserved : goal.loop-k-preserved
loop-k-preserved c =
    let words = c.args.words.now in
    let k = c.loop-k.k in
    let fits : get_or words k 0 < 2 ^ 64 = search rules in
    let step = ap (λ n. n + ones (get_or words k 0)) c.loop-k.invariant.is ∙ sym (count_alone words k fits) in
    let most = count_le (has words) (64 * (k + 1)) in
    record { few = omega (arith, step, most); is = step }
