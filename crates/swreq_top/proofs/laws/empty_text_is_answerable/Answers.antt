use Rattle.swreq_top.proofs.EmptyText.{empty_is_answerable}
use Rattle.swreq_top.proofs.laws.empty_text_is_answerable.Goals as goal

pub returns : goal.returns
returns c = empty_is_answerable
