use Rattle.std.proofs.Common.{◌∙◌, ap, false, length, List, replicate, subst, sym, ℕ}
use Rattle.swreq_valid.proofs.swreq_symbols.OfTexts.{text_over}
use Rattle.swreq_reqsig.specs.declared.outlines.Outline.{Outline}
use Rattle.swreq_reqsig.specs.Outlines.{AreSaidIn, HaveProtocolsBelow}
use Rattle.swreq_reqsig.specs.Selections.{protocols_in}
use Rattle.swreq_reqsig.proofs.Asking.{protocols_below}
use Rattle.swreq_reqsig.proofs.Selecting.{named_in}
use Rattle.swreq_reqsig.proofs.Spoken.{place_within, said_all, said_at_end, said_further, said_none}
use Rattle.swreq_reqsig.proofs.saying.stated.Goals as goal

pub mark_at-requires-clause-place : goal.mark_at-requires-clause-place
mark_at-requires-clause-place c =
    let f = c.args.selection.now in
    place_within f.setting.outlines.now f.flags.now c.places_of-places.result.now c.places_of-places.ensures.are c.loop-at.at _
    c.loop-at-test.true

pub mark_at-requires-clause-rank : goal.mark_at-requires-clause-rank
mark_at-requires-clause-rank c =
    let s = c.args.selection.now.setting in
    subst (λ (n : ℕ). HaveProtocolsBelow n s.outlines.now) (sym c.loop-at.invariant.count)
    (subst (λ (z : List Outline). HaveProtocolsBelow (length s.text.world.now.lexicon.protocols) z) (sym s.outlined)
    (protocols_below s.text.world.now s.text.table.now (text_over s.text)))

pub loop-at-init : goal.loop-at-init
loop-at-init c =
    let f = c.args.selection.now in
    subst (AreSaidIn f.setting.outlines.now f.flags.now c.places_of-places.result.now 0 c.args.name (protocols_in f))
    (sym (c.in_ok-marks.ensures ∙ ap (λ (n : ℕ). replicate n false) c.protocols-protocols.ensures))
    (said_none f.setting.outlines.now f.flags.now c.places_of-places.result.now c.args.name (protocols_in f))

pub loop-at-preserved : goal.loop-at-preserved
loop-at-preserved c =
    let f = c.args.selection.now in
    said_further f.setting.outlines.now f.flags.now c.places_of-places.result.now c.places_of-places.ensures.are c.loop-at.at _
    c.loop-at-test.true c.args.name (protocols_in f) c.loop-at.marks.items c.mark_at.new.marks.items
    c.loop-at.invariant c.mark_at.ensures

pub returns : goal.returns
returns c =
    let f = c.args.selection.now in
    said_all f.setting.outlines.now f.flags.now f.setting.named.now (named_in f.setting) c.args.name
    (protocols_in f)
    c.loop-at.marks.items
    (subst (λ (z : List ℕ). AreSaidIn f.setting.outlines.now f.flags.now z (length z) c.args.name (protocols_in f) c.loop-at.marks.items)
    c.places_of-places.ensures.places
    (said_at_end f.setting.outlines.now f.flags.now c.places_of-places.result.now c.loop-at.at c.args.name
    (protocols_in f)
    c.loop-at.marks.items c.loop-at-test.false c.loop-at.auto.at-end c.loop-at.invariant))
