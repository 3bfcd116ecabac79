use Rattle.std.proofs.Common.{◌||◌, ◌-◌, ◌∙◌, ap, arith, sym}
use Rattle.std.proofs.lemmas.Option.{slice_get-get_or}
use Rattle.swreq_valid.proofs.swreq_symbols.OfTexts.{text_over}
use Rattle.swreq_reqsig.proofs.Asking.{ranks_below}
use Rattle.swreq_reqsig.proofs.Passing.{goes_on}
use Rattle.swreq_reqsig.proofs.reaching.pass.Goals as goal

pub go_on-added-requires : goal.go_on-added-requires
go_on-added-requires c =
    let s = c.args.selection.now.setting in
    let t = c.loop-left-test.true in
    let w = c.loop-left.invariant.within in
    ranks_below s.text.world.now s.text.table.now (text_over s.text) s.places.now s.all _
    (c.loop-left.invariant.passed.count ∙ c.requires) (c.loop-left.left - 1) _
    (slice_get-get_or s.places.now (c.loop-left.left - 1) _ (omega (arith, t, w)))

pub loop-left-preserved-then-grew : goal.loop-left-preserved-then-grew
loop-left-preserved-then-grew c =
    let f = c.args.selection.now in
    let t = c.loop-left-test.true in
    let w = c.loop-left.invariant.within in record {
      within = omega (arith, w);
      passed = goes_on f.setting.places.now f.flags.now c.loop-left.left (c.loop-left.left - 1) _ _ c.loop-left.grew c.go_on-added.result
          c.loop-left.grew c.args.marks.now.items c.loop-left.marks.items c.go_on-added.new.marks.items
          (omega (arith, t)) w f.flagged
          c.loop-left.invariant.passed c.go_on-added.ensures.stays c.go_on-added.ensures.added
          (ap (λ b. b || c.go_on-added.result) c.if-grew.true ∙ sym c.if-grew.true);
    }

pub loop-left-preserved : goal.loop-left-preserved
loop-left-preserved c =
    let f = c.args.selection.now in
    let t = c.loop-left-test.true in
    let w = c.loop-left.invariant.within in record {
      within = omega (arith, w);
      passed = goes_on f.setting.places.now f.flags.now c.loop-left.left (c.loop-left.left - 1) _ _ c.loop-left.grew c.go_on-added.result
          c.go_on-added.result c.args.marks.now.items c.loop-left.marks.items c.go_on-added.new.marks.items
          (omega (arith, t)) w f.flagged
          c.loop-left.invariant.passed c.go_on-added.ensures.stays c.go_on-added.ensures.added
          (ap (λ b. b || c.go_on-added.result) c.if-grew.false);
    }
