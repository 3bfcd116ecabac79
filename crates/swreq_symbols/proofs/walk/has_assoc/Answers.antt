use Rattle.swreq_symbols.proofs.Giving.{VanishesAfter, assoc_answer}
use Rattle.swreq_symbols.proofs.walk.has_assoc.Goals as goal

pub returns-clause-answer : goal.returns-clause-answer
returns-clause-answer c =
    assoc_answer c.args.text.now.world.now.lexicon (VanishesAfter c.args.rules.now c.args.word.now) c.args.d c.assoc-declared.result
    c.vanishes.result c.assoc-declared.ensures c.vanishes.ensures.answer
