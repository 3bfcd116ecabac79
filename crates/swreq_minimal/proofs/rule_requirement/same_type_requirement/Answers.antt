use Rattle.std.proofs.Common.{subst}
use Rattle.swreq_minimal.specs.Typed.{Identifies, IsSubjectOf}
use Rattle.swreq_minimal.proofs.Speaking.{none_same, some_same}
use Rattle.swreq_minimal.proofs.rule_requirement.same_type_requirement.Goals as goal

pub returns-in-None-clause-same : goal.returns-in-None-clause-same
returns-in-None-clause-same c =
    none_same c.args.by.now.world.now.lexicon c.args.by.now.rules.now c.args.by.now.params c.args.left.now c.args.table.now
    c.subject.new.table c.args.t
    (subst (λ z. Identifies (IsSubjectOf c.args.by.now.world.now.lexicon c.args.by.now.rules.now c.args.by.now.params c.args.left.now)
    c.subject.new.table z) c.in-None.is c.in_ok-other.ensures.subject)

pub returns-in-Some-clause-same : goal.returns-in-Some-clause-same
returns-in-Some-clause-same c =
    let subject = subst (λ z. Identifies
    (IsSubjectOf c.args.by.now.world.now.lexicon c.args.by.now.rules.now c.args.by.now.params c.args.left.now) c.subject.new.table z)
    c.in-Some.is c.in_ok-other.ensures.subject in
    some_same c.args.by.now.world.now.lexicon c.args.by.now.rules.now c.args.by.now.params c.args.left.now c.args.table.now
    c.subject.new.table c.args.t c.in-Some.v
    c.subject.ensures.extends c.requires.t subject.0 subject.1 c.same_type.result c.same_type.ensures
