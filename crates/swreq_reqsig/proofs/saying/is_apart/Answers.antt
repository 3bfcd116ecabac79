use Rattle.swreq_reqsig.specs.declared.outlines.Kind.TheVariants.{IsEqual}
use Rattle.swreq_reqsig.proofs.Selecting.{says_so}
use Rattle.swreq_reqsig.proofs.Spoken.{not_said}
use Rattle.swreq_reqsig.proofs.saying.is_apart.Goals as goal

pub returns : goal.returns
returns c =
    not_said c.is_said.result _ (says_so c.args.selection.now c.args.name c.in_ok-marks.marks.items c.deref.result.now
    c.deref.ensures.value c.in_ok-marks.ensures IsEqual c.is_said.result c.is_said.ensures)
