use Rattle.std.proofs.Common.{◌∙◌, lit<}
use Rattle.std.proofs.lemmas.Iterator.Consumers.{YieldsList-at, YieldsList-end}
use Rattle.std.proofs.lemmas.Iterator.Splits.{YieldsList-from_str_split}
use Rattle.swreq_c.proofs.words.pieces_of.Goals as goal

pub returns : goal.returns
returns c =
    let split = c.split-word-items.ensures in
    let cut = YieldsList-from_str_split 0 c.args.text.now (lit< tt) split.text split.has_more split.pattern in
    let pieces = YieldsList-at c.into_iter-word-iterator.ensures.into_iter_gives cut in
    c.loop-word.invariant ∙ (YieldsList-end pieces c.loop-word.yielded _ c.loop-word.yielded_by _ _ c.in-None.is c.next.ensures.steps).0
