use Rattle.std.proofs.Common.{rules}
use Rattle.swreq_words.proofs.Digits.{parsed}
use Rattle.swreq_words.proofs.numbers.value_of.Goals as goal

pub returns : goal.returns
returns c = let is = parsed c.args.digits.now c.parse.result c.parse.ensures.value.0 c.requires in search (rules, is)
