use Rattle.std.proofs.Common.{rules}
use Rattle.swreq_words.proofs.Fronts.{stripped}
use Rattle.swreq_words.proofs.meaning.after.Goals as goal

pub returns : goal.returns
returns c = stripped (λ text. text.now) c.args.front.now c.args.word.now c.strip_prefix.result (search rules)
