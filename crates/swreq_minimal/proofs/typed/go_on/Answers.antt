use Rattle.std.proofs.Common.{subst}
use Rattle.std.proofs.lemmas.Result.{IfOk-weaker}
use Rattle.swreq_minimal.specs.Typed.{Identifies, IsTypeBy}
use Rattle.swreq_minimal.proofs.Typing.{none_more, one_more}
use Rattle.swreq_minimal.proofs.typed.go_on.Goals as goal

pub returns-in-None-clause-typed : goal.returns-in-None-clause-typed
returns-in-None-clause-typed c params h =
    none_more c.args.by.now.world.now.lexicon c.args.by.now.rules.now params c.args.front.now c.args.symbol c.requires.some
    (subst (λ z. Identifies (IsTypeBy c.args.by.now.world.now.lexicon c.args.by.now.rules.now params c.args.front.now) c.args.table.now z)
    c.in-None.is h)

pub returns-in-Some-clause-typed : goal.returns-in-Some-clause-typed
returns-in-Some-clause-typed c params h =
    let typed = subst (λ z. Identifies (IsTypeBy c.args.by.now.world.now.lexicon c.args.by.now.rules.now params c.args.front.now)
    c.args.table.now z) c.in-Some.is h in
    IfOk-weaker c.step.result _ _
    (one_more c.args.by.now.world.now.lexicon c.args.by.now.rules.now params c.args.front.now c.args.symbol c.requires.some c.args.table.now
    c.step.new.table c.in-Some.t typed.1)
    c.step.ensures.member
