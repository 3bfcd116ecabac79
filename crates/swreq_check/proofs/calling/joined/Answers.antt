use Rattle.std.proofs.Common.{◌<◌, arith, length, subst, sym}
use Rattle.std.proofs.lemmas.Option.{get_or_from_slice_get}
use Rattle.swreq_machine.proofs.swreq_lemmas.Elements.{there_is}
use Rattle.swreq_subst.specs.Lines.{IsLineOf}
use Rattle.swreq_check.proofs.Lines.{lines_all, lines_next, lines_none}
use Rattle.swreq_check.proofs.calling.joined.Goals as goal

pub loop-k-init : goal.loop-k-init
loop-k-init c = λ w calls counted each. lines_none (IsLineOf w) calls _ c.new-out.ensures.items

pub loop-k-preserved : goal.loop-k-preserved
loop-k-preserved c = λ w calls counted each.
    let k = c.loop-k.k in
    let below : k < length calls = omega (arith, counted, c.loop-k-test.true) in
    let (d, at) = there_is calls k below in
    lines_next (IsLineOf w) calls k d _ _ _ below (c.loop-k.invariant w calls counted each)
    (subst (λ z. IsLineOf w z c.text_at.result.now) (sym (get_or_from_slice_get calls k d d at))
    (subst (IsLineOf w d) (sym c.text_at.ensures) (each k d at))) c.in_ok-append_bytes.ensures.ok

pub returns : goal.returns
returns c = λ w calls counted each.
    lines_all (IsLineOf w) calls c.loop-k.k _ (omega (arith, counted, c.loop-k-test.false)) (c.loop-k.invariant w calls counted each)
