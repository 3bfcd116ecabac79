use Rattle.swreq_top.proofs.InOrder.{never_refused_in_order}
use Rattle.swreq_top.proofs.laws.texts_in_order_are_answerable.Goals as goal

pub returns : goal.returns
returns c r line text p s says known are stands resolve each =
    (line, says, (text, known, never_refused_in_order line text p s are stands resolve each))
