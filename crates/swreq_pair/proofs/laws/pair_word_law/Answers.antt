use Rattle.swreq_pair.proofs.PairWords.{pair_words}
use Rattle.swreq_pair.proofs.laws.pair_word_law.Goals as goal

pub returns : goal.returns
returns c = pair_words c.args.rules.now
