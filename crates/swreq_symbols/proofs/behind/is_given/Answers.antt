use Rattle.swreq_symbols.proofs.Giving.{VanishesAfter, given_answer, not_given}
use Rattle.swreq_symbols.proofs.behind.is_given.Goals as goal

pub returns-then-declared-a-clause-answer : goal.returns-then-declared-a-clause-answer
returns-then-declared-a-clause-answer c =
    given_answer c.args.world.now.lexicon (VanishesAfter c.args.rules.now c.args.word.now) c.args.a c.args.d
    c.assoc-declared.result c.vanishes.result c.assoc-declared.ensures c.if-declared-a.true c.vanishes.ensures.answer

pub returns-else-declared-a-clause-answer : goal.returns-else-declared-a-clause-answer
returns-else-declared-a-clause-answer c = (
  (λ h. cc),
  λ g. absurd (not_given c.args.world.now.lexicon (VanishesAfter c.args.rules.now c.args.word.now) c.args.a c.args.d
      c.assoc-declared.result c.assoc-declared.ensures c.if-declared-a.false g),
)
