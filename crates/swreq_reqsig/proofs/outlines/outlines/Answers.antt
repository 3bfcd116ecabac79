use Rattle.std.proofs.Common.{◌∙◌, ap, List, slice_get, sym}
use Rattle.std.proofs.lemmas.Option.{slice_get-get_or}
use Rattle.swreq_reqsig.specs.declared.places.Place.{Place}
use Rattle.swreq_reqsig.proofs.Placing.{one_outline, outlines_done, place_is, place_known}
use Rattle.swreq_valid.proofs.swreq_symbols.OfTexts.{text_over}
use Rattle.swreq_reqsig.proofs.outlines.outlines.Goals as goal

pub outline_of-requires : goal.outline_of-requires
outline_of-requires c =
    let w = c.args.text.now.world.now in
    let at = slice_get-get_or c.args.places.now c.loop-k.k _ c.loop-k-test.true in
    place_known w c.args.text.now.table.now (text_over c.args.text.now) _
    (place_is w (text_over c.args.text.now).closed.ids c.loop-k.k _ (ap (λ (z : List Place). slice_get z c.loop-k.k) (sym c.requires) ∙ at))

pub loop-k-preserved : goal.loop-k-preserved
loop-k-preserved c =
    one_outline c.args.text.now.world.now c.args.text.now.table.now c.args.places.now c.loop-k.k _ _ c.loop-k.v.items
    c.push.new.self.items _
    (slice_get-get_or c.args.places.now c.loop-k.k _ c.loop-k-test.true) c.outline_of.ensures c.in_ok-push.ensures.items c.loop-k.invariant

pub returns : goal.returns
returns c =
    outlines_done c.args.text.now.world.now c.args.text.now.table.now c.args.places.now c.loop-k.k c.loop-k.v.items c.loop-k-test.false
    c.requires
    c.loop-k.invariant
