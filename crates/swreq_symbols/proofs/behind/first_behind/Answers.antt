use Rattle.std.proofs.Common.{arith}
use Rattle.swreq_symbols.proofs.Giving.{VanishesAfter, none_at_all, none_given}
use Rattle.swreq_symbols.proofs.behind.first_behind.Goals as goal

pub loop-rank-preserved : goal.loop-rank-preserved
loop-rank-preserved c = record {
  none = none_given c.args.world.now.lexicon (VanishesAfter c.args.rules.now c.args.word.now) c.args.a c.loop-rank.rank
      (λ g. let e = c.if-is_given.ensures.answer.1 g in cc) c.loop-rank.invariant.none;
  room = (let a = c.if-is_given.ensures.room in let b = c.loop-rank.invariant.room in omega (arith, a, b));
}

pub returns-clause-answer : goal.returns-clause-answer
returns-clause-answer c =
    none_at_all c.args.world.now.lexicon (VanishesAfter c.args.rules.now c.args.word.now) c.args.a c.loop-rank.rank
    (let a = c.loop-rank-test.false in let b = c.associated-rank-end.ensures in omega (arith, a, b)) c.loop-rank.invariant.none
