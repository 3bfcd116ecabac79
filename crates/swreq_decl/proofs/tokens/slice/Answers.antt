use Rattle.swreq_decl.proofs.Slices.{cut_slice}
use Rattle.swreq_decl.proofs.tokens.slice.Goals as goal

pub returns : goal.returns
returns c = cut_slice c.args.text.now c.args.start c.args.end c.min.result c.min-2.result c.min.ensures c.min-2.ensures
