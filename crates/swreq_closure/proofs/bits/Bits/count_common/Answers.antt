use Rattle.std.proofs.Common.{◌∙◌, ◌≡◌, min, ◌+◌, ◌*◌, ◌<◌, ◌&&◌, length, arith, rules}
use Rattle.swreq_closure.specs.Bits.{count_below, has, room}
use Rattle.swreq_closure.proofs.Counts.{count_all, count_le, count_step}
use Rattle.swreq_closure.proofs.bits.Bits.count_common.Goals as goal

pub loop-k-preserved : goal.loop-k-preserved
loop-k-preserved c =
    let words = c.self.inside.words.items in
    let other = c.other.inside.words.items in
    let k = c.loop-k.k in
    let here : k < length words = omega (arith, c.loop-k-test.true, c.min-k-end.ensures, c.len.ensures, c.len-2.ensures) in
    let there : k < length other = omega (arith, c.loop-k-test.true, c.min-k-end.ensures, c.len.ensures, c.len-2.ensures) in
    let step = count_step words other k c.index.result.now c.index-in-loop-k.result.now c.loop-k.count here there c.index.ensures
    c.index-in-loop-k.ensures (search rules) c.loop-k.invariant.is in
    let most = count_le (λ j. has words j && has other j) (64 * (k + 1)) in
    record { few = omega (arith, step, most); is = step }

pub returns : goal.returns
returns c =
    let words = c.self.inside.words.items in
    let other = c.other.inside.words.items in
    let k = c.loop-k.k in
    let last : k ≡ min (length words) (length other) =
    omega (arith, c.loop-k-test.false, c.loop-k.auto.k-end, c.min-k-end.ensures, c.len.ensures, c.len-2.ensures) in
    c.loop-k.invariant.is ∙ count_all words other k last
    ∙ (λ i. count_below (λ j. has (c.self.view_is i) j && has (c.other.view_is i) j) (room (c.other.view_is i)))
