use Rattle.swreq_lowering.proofs.Shorter.{short_lists}
use Rattle.swreq_lowering.proofs.laws.lists_are_short.Goals as goal

pub returns : goal.returns
returns c limit s stands = short_lists c.args.text.now s c.tokens_are_slices.ensures limit stands
