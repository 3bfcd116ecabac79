use Rattle.swreq_correspondence.proofs.Chained.{chained_usable}
use Rattle.swreq_correspondence.proofs.laws.derived_is_shown.Goals as goal

pub returns : goal.returns
returns c = λ m f s st fit ranges n e. chained_usable m fit ranges n e
