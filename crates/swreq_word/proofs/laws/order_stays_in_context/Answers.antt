use Rattle.swreq_word.proofs.Comparing.{less_in_context}
use Rattle.swreq_word.proofs.laws.order_stays_in_context.Goals as goal

pub returns : goal.returns
returns c = less_in_context
