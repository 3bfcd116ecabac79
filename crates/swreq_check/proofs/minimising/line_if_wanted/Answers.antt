use Rattle.std.proofs.Common.{◌∙◌, inr, sym}
use Rattle.swreq_check.proofs.Flags.{flagged_in, minimised_for}
use Rattle.swreq_check.proofs.OfChecks.{err_is}
use Rattle.swreq_check.proofs.minimising.line_if_wanted.Goals as goal

pub returns-clause-told : goal.returns-clause-told
returns-clause-told g c =
    let told = c.in_ok-line.ensures.told in
    let asked = minimised_for c.args.l.now.passed.world.now c.args.table.now c.args.f c.args.l.now.content c.requires.f
    (sym ((flagged_in c.args.l.now).set c.args.f.place c.requires.f) ∙ c.if-not-l-f.false) in
    (told.0, inr (asked, told.1), told.2)

pub returns-in_err-line-clause-failed : goal.returns-in_err-line-clause-failed
returns-in_err-line-clause-failed g c =
    let told = c.in_err-line.ensures.failed in
    let asked = minimised_for c.args.l.now.passed.world.now c.args.table.now c.args.f c.args.l.now.content c.requires.f
    (sym ((flagged_in c.args.l.now).set c.args.f.place c.requires.f) ∙ c.if-not-l-f.false) in
    rw (err_is c.from_residual.result _ c.from_residual.ensures.1) (told.0, (asked, told.1), told.2)
