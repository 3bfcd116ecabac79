use Rattle.std.proofs.Common.{◌≡◌, ◌∙◌, Some, ap, arith, length, refl, slice_get, subst, sym, true, true≢false}
use Rattle.std.proofs.lemmas.Option.{get_or_from_slice_get, slice_get_read}
use Rattle.swreq_derivation.proofs.marking.mark_premises.Goals as goal
use Rattle.swreq_derivation.{specs.Marks.{AreMarked}, proofs.SetMarks.{needed_marked, needed_unmarked}}

pub returns-then-index : goal.returns-then-index
returns-then-index c =
    let lines = c.args.lines.now in
    let old = c.args.marks.now.items in
    let new = c.mark.new.marks.items in
    let at = c.args.place in
    let line = c.index-lines-place.result in
    let within = c.requires.place in
    let count = c.requires.after.count in
    let is : slice_get lines at ≡ Some line = slice_get_read lines (length lines) at line refl within c.index-lines-place.is in
    let flag : slice_get old at ≡ Some c.index.result.now
    = slice_get_read old (length old) at c.index.result.now refl (omega (arith, within, count)) c.index.ensures in
    needed_marked lines at line old new is c.requires.after (flag ∙ ap Some c.if-index.true)
    (subst (λ ns. AreMarked old new ns at) c.items.ensures c.mark.ensures)

pub returns-else-index : goal.returns-else-index
returns-else-index c =
    let old = c.args.marks.now.items in
    let at = c.args.place in
    let flag = c.index.result.now in
    needed_unmarked c.args.lines.now at old c.requires.after
    (λ on. true≢false (sym (get_or_from_slice_get old at true flag on) ∙ sym c.index.ensures ∙ c.if-index.false))
