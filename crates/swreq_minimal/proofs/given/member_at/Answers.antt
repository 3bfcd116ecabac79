use Rattle.std.proofs.Common.{arith}
use Rattle.swreq_minimal.proofs.Giving.{member_given, no_rank, not_vanishing}
use Rattle.swreq_minimal.proofs.given.member_at.Goals as goal

pub returns-then-rank-members-clause-answer : goal.returns-then-rank-members-clause-answer
returns-then-rank-members-clause-answer c =
    no_rank c.args.world.now.lexicon c.args.rules.now c.args.word.now c.args.rank
    (let a = c.if-rank-members.true in let b = c.members.ensures in omega (arith, a, b))

pub returns-then-not-vanishes-clause-answer : goal.returns-then-not-vanishes-clause-answer
returns-then-not-vanishes-clause-answer c =
    not_vanishing c.args.world.now.lexicon c.args.rules.now c.args.word.now c.args.rank c.member_at-symbol.result c.member_at-symbol.ensures
    (λ v. let e = c.vanishes.ensures.answer.1 v in let f = c.if-not-vanishes.true in cc)

pub returns-clause-answer : goal.returns-clause-answer
returns-clause-answer c =
    member_given c.args.world.now.lexicon c.args.rules.now c.args.word.now c.args.rank c.member_at-symbol.result c.member_at-symbol.ensures
    (c.vanishes.ensures.answer.0 c.if-not-vanishes.false) c.first_behind.result c.first_behind.ensures.answer
