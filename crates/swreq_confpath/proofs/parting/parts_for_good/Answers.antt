use Rattle.std.proofs.Common.{◌<◌, ◌∙◌, get_or, length, sym, true≢false, arith}
use Rattle.std.proofs.lemmas.Option.{slice_get-get_or}
use Rattle.swreq_print.specs.swreq_word.declared.symbols.Symbol.TheVariants.{Proto}
use Rattle.swreq_confpath.proofs.Spared.{parts_at}
use Rattle.swreq_confpath.proofs.parting.parts_for_good.Goals as goal

pub returns-then-not-is_among : goal.returns-then-not-is_among
returns-then-not-is_among c rules others _ =
    let v = c.args.v.now in
    let k = c.loop-k.k in
    let inside : k < length v = omega (arith, c.loop-k-test.true, c.before_protocol-to.ensures.within) in
    parts_at rules c.args.changed.now c.args.u.now v c.in_common-from.result c.before_protocol-to.result k (get_or v k (Proto 0)) others
    c.in_common-from.ensures c.before_protocol-to.ensures c.loop-k.auto.k c.loop-k-test.true (slice_get-get_or v k (Proto 0) inside)
    (λ h. true≢false (sym (c.is_among.ensures.1 h) ∙ c.if-not-is_among.true))
