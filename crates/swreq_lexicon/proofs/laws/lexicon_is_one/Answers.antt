use Rattle.swreq_lexicon.proofs.OneLexicon.{same_lexicon}
use Rattle.swreq_lexicon.proofs.laws.lexicon_is_one.Goals as goal

pub returns : goal.returns
returns c = λ s x y h k. same_lexicon c.args.text.now s x y h k (c.names_are_one.ensures s)
