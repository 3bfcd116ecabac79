use Rattle.std.proofs.Common.{MatchOption, subst, sym}
use Rattle.swreq_machine.specs.swreq_param.declared.ids.AssocId.{AssocId}
use Rattle.swreq_minimal.specs.Typed.{IsMemberBehind}
use Rattle.swreq_minimal.proofs.Giving.{no_symbol}
use Rattle.swreq_minimal.proofs.given.member_behind.Goals as goal

pub returns-in-Member-clause-answer : goal.returns-in-Member-clause-answer
returns-in-Member-clause-answer c =
    subst (λ z. MatchOption c.member_at.result
    ((d : AssocId) → IsMemberBehind c.args.world.now.lexicon c.args.rules.now c.args.word.now z d → ⊥)
    (IsMemberBehind c.args.world.now.lexicon c.args.rules.now c.args.word.now z)) (sym c.in-Member.is) c.member_at.ensures.answer

pub returns-in_default-clause-answer : goal.returns-in_default-clause-answer
returns-in_default-clause-answer c =
    no_symbol c.args.world.now.lexicon c.args.rules.now c.args.word.now c.args.x (λ k e. c.in_default.not-Member k e)
