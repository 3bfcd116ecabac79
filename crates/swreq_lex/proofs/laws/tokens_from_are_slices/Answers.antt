use Rattle.swreq_lex.proofs.SliceLemmas.{are_slices_from}
use Rattle.swreq_lex.proofs.laws.tokens_from_are_slices.Goals as goal

pub returns : goal.returns
returns c = are_slices_from c.args.text.now c.args.from c.requires
