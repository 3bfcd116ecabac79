use Rattle.std.proofs.Common.{◌∙◌, ap, List, slice_get, sym}
use Rattle.std.proofs.lemmas.Option.{get_or_from_slice_get}
use Rattle.swreq_print.proofs.swreq_lemmas.Elements.{get_map}
use Rattle.swreq_reqsig.specs.declared.outlines.Outline.{Outline}
use Rattle.swreq_reqsig.specs.declared.places.Place.{Place}
use Rattle.swreq_reqsig.specs.Families.{owned}
use Rattle.swreq_reqsig.specs.Outlines.{outline_of}
use Rattle.swreq_reqsig.specs.Places.{owned_at}
use Rattle.swreq_reqsig.specs.Settings.{text_in}
use Rattle.swreq_reqsig.proofs.Placing.{owned_there}
use Rattle.swreq_reqsig.proofs.saying.outline_at.Goals as goal

pub returns : goal.returns
returns c x there =
    let s = c.args.selection.now.setting in
    let at = c.args.at in
    let here =
    owned_there s.text.world.now s.text.table.now at x (ap (λ (z : List Place). slice_get z at) (sym s.all) ∙
    there) in
    sym (get_or_from_slice_get s.outlines.now at _ _ (ap (λ (z : List Outline). slice_get z at) c.args.selection.now.setting.outlined
    ∙ get_map (outline_of s.text.world.now.lexicon) (owned (text_in s)) at (owned_at s.text.table.now x) here))
