use Rattle.std.proofs.Common.{◌≡◌, ◌∙◌, ap, Bool, false, List, refl, subst, sym, true}
use Rattle.std.proofs.lemmas.Option.{slice_get-get_or}
use Rattle.swreq_print.proofs.swreq_lemmas.Elements.{there_is}
use Rattle.swreq_reqsig.specs.Marks.{IsMarked, marked}
use Rattle.swreq_reqsig.specs.Selections.{protocols_in}
use Rattle.swreq_reqsig.proofs.Asking.{are_asked, is_beyond, is_unsaid, ranks_below}
use Rattle.swreq_valid.proofs.swreq_symbols.OfTexts.{text_over}
use Rattle.swreq_reqsig.proofs.reaching.asked.Goals as goal

pub reached-requires : goal.reached-requires
reached-requires c =
    let f = c.args.selection.now in let s = f.setting in
    (ranks_below s.text.world.now s.text.table.now (text_over s.text) s.places.now s.all (protocols_in f) refl c.args.at _
    (slice_get-get_or s.places.now c.args.at _ c.requires)).own

pub returns-then-unsaid : goal.returns-then-unsaid
returns-then-unsaid c =
    let f = c.args.selection.now in let s = f.setting in
    let (x, there) = there_is f.setting.places.now c.args.at c.requires in
    is_unsaid s.text.world.now s.text.table.now (text_over s.text) f.setting.places.now f.flags.now c.args.at x
    s.all
    there ((c.in_ok-unsaid.ensures x there).0 c.if-unsaid.true)

pub returns-then-is_beyond : goal.returns-then-is_beyond
returns-then-is_beyond c =
    let f = c.args.selection.now in let s = f.setting in
    let (t, q, says, unmarked) = c.is_beyond.ensures.beyond c.if-is_beyond.true in
    is_beyond s.text.world.now s.text.table.now (text_over s.text) f.setting.places.now f.flags.now c.args.at _
    s.all
    (slice_get-get_or f.setting.places.now c.args.at _ c.requires) c.in_ok-marks.marks.items (c.in_ok-marks.ensures s.text.table.now)
    (t, q, says, λ m. unmarked (subst (λ (z : List Bool). IsMarked z q) (sym c.deref.ensures.value) m))

pub returns : goal.returns
returns c =
    let f = c.args.selection.now in let s = f.setting in
    let there = slice_get-get_or f.setting.places.now c.args.at _ c.requires in
    are_asked s.text.world.now s.text.table.now (text_over s.text) f.setting.places.now f.flags.now c.args.at _
    s.all
    there (λ unsaid. let has = (c.in_ok-unsaid.ensures _ there).1 unsaid in let z : false ≡ true = sym c.if-unsaid.false ∙ has in cc)
    c.in_ok-marks.marks.items c.in_ok-asked.asked.items
    (c.in_ok-marks.ensures s.text.table.now) c.args.selection.now.flagged
    (λ t q says. subst (λ (z : List Bool). IsMarked z q) c.deref.ensures.value (c.is_beyond.ensures.within c.if-is_beyond.false t q says))
    (c.in_ok-asked.ensures ∙ ap (marked f.setting.places.now f.flags.now) c.deref-2.ensures.value)
