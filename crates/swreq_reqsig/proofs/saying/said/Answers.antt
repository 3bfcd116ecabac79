use Rattle.std.proofs.Common.{List, subst}
use Rattle.swreq_valid.specs.swreq_derive.Kept.{Owned}
use Rattle.swreq_valid.proofs.swreq_symbols.OfTexts.{text_over}
use Rattle.swreq_reqsig.specs.declared.outlines.Outline.{Outline}
use Rattle.swreq_reqsig.specs.Families.{owned}
use Rattle.swreq_reqsig.specs.Marks.{TellLed}
use Rattle.swreq_reqsig.specs.Outlines.{AreSaid}
use Rattle.swreq_reqsig.specs.Settings.{text_in}
use Rattle.swreq_reqsig.specs.Selections.{protocols_in}
use Rattle.swreq_reqsig.proofs.Asking.{kept_family}
use Rattle.swreq_reqsig.proofs.Spoken.{says_conforms}
use Rattle.swreq_reqsig.proofs.saying.said.Goals as goal

pub close-requires : goal.close-requires
close-requires c = c.in_ok-marks.ensures.count

pub returns : goal.returns
returns c =
    let f = c.args.selection.now in let s = f.setting in
    let starts = c.in_ok-marks.marks.items in
    let marks = c.close.new.marks.items in
    let protocols = protocols_in f in
    says_conforms s.text.world.now.lexicon (owned (text_in s)) f.flags.now c.args.name protocols starts marks
    (subst (λ (z : List Outline). AreSaid z f.flags.now c.args.name protocols starts) s.outlined c.in_ok-marks.ensures)
    (subst (λ (z : List Owned). TellLed z starts marks)
    (kept_family s.text.world.now s.text.table.now (text_over s.text) s.places.now f.flags.now s.all)
    (c.close.ensures s.text.table.now))
