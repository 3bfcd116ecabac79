use Rattle.swreq_print.proofs.ReadSignatures.{signature_read}
use Rattle.swreq_print.proofs.laws.texts_tell_signatures_apart.Goals as goal

pub returns-clause-params : goal.returns-clause-params
returns-clause-params c x params others rs qs names a b e = (signature_read x names params others rs qs a b e).0

pub returns-clause-requirements : goal.returns-clause-requirements
returns-clause-requirements c x params others rs qs names a b e = (signature_read x names params others rs qs a b e).1
