use Rattle.swreq_reply.proofs.swreq_check.OfChecks.{is_formed}
use Rattle.swreq_reply.proofs.swreq_query.PrintingAlike.{closed_world}
use Rattle.swreq_top.proofs.WellFormed.{never_refused}
use Rattle.swreq_top.proofs.laws.checked_texts_are_well_formed.Goals as goal

pub returns-clause-formed : goal.returns-clause-formed
returns-clause-formed c text w limits rules told of built = is_formed limits w (closed_world text w of) built

pub returns-clause-unrefused : goal.returns-clause-unrefused
returns-clause-unrefused c w limits at told formed checked = never_refused w formed limits at checked
