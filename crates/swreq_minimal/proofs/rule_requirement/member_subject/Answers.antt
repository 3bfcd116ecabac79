use Rattle.std.proofs.Common.{subst}
use Rattle.std.proofs.lemmas.Result.{IfOk-weaker}
use Rattle.swreq_minimal.specs.Typed.{Identifies, IsTypeBy}
use Rattle.swreq_minimal.proofs.Speaking.{none_behind, some_behind}
use Rattle.swreq_minimal.proofs.rule_requirement.member_subject.Goals as goal

pub returns-in-None-clause-subject : goal.returns-in-None-clause-subject
returns-in-None-clause-subject c =
    none_behind c.args.by.now.world.now.lexicon c.args.by.now.rules.now c.args.by.now.params c.args.front.now c.args.symbol c.requires.some
    (subst (λ z. Identifies (IsTypeBy c.args.by.now.world.now.lexicon c.args.by.now.rules.now c.args.by.now.params c.args.front.now)
    c.type_of.new.table z) c.in-None.is c.in_ok-at.ensures.typed)

pub returns-in-Some-clause-subject : goal.returns-in-Some-clause-subject
returns-in-Some-clause-subject c =
    let typed = subst (λ z. Identifies
    (IsTypeBy c.args.by.now.world.now.lexicon c.args.by.now.rules.now c.args.by.now.params c.args.front.now) c.type_of.new.table z)
    c.in-Some.is c.in_ok-at.ensures.typed in
    IfOk-weaker c.last_member.result _ _
    (some_behind c.args.by.now.world.now.lexicon c.args.by.now.rules.now c.args.by.now.params c.args.front.now c.args.symbol c.requires.some
    c.type_of.new.table c.last_member.new.table c.in-Some.t typed.1)
    c.last_member.ensures.member
