use Rattle.std.proofs.Common.{◌≡◌, ◌∙◌, ◌*◌, ◌/◌, min, length, ap, arith}
use Rattle.swreq_closure.specs.Bits.{count_below, has}
use Rattle.swreq_closure.proofs.Counts.{count_le, count_whole}
use Rattle.swreq_closure.proofs.bits.Bits.count_to.Goals as goal

pub loop-k-init : goal.loop-k-init
loop-k-init c =
    let words = c.self.inside.words.items in
    let whole : c.min-full.result ≡ min (length words) (c.args.bound / 64) = omega (arith, c.min-full.ensures, c.len.ensures) in
    let is =
    c.count_words-count.ensures ∙ ap (λ ws. count_below (has ws) (64 * c.min-full.result)) c.deref.ensures.value
    ∙ count_whole words c.min-full.result c.args.bound whole ∙ ap (λ ws. count_below (has ws) (c.args.bound / 64 * 64)) c.self.view_is in
    let most = count_le (has c.args.self.now) (c.args.bound / 64 * 64) in
    record { few = omega (arith, is, most); is = is }
