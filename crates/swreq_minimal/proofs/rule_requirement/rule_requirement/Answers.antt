use Rattle.std.proofs.Common.{sym, subst}
use Rattle.swreq_homotopy.specs.swreq_word.Least.{IsMinimal}
use Rattle.swreq_machine.specs.swreq_symbols.Vanishing.{IsLeastBy, Links}
use Rattle.swreq_minimal.proofs.Speaking.{nothing_said}
use Rattle.swreq_minimal.proofs.rule_requirement.rule_requirement.Goals as goal

pub type_of-requires : goal.type_of-requires
type_of-requires c = subst (IsLeastBy c.args.by.now.rules.now) (sym c.symbols-right.ensures) c.requires.2

pub returns-in-None-clause-requirement : goal.returns-in-None-clause-requirement
returns-in-None-clause-requirement c =
    nothing_said c.args.by.now.world.now.lexicon c.args.by.now.rules.now c.args.by.now.params c.args.rule.now.left c.args.rule.now.right
    (rw (c.symbols-right.ensures, c.in-None.is) at c.in_ok-at.ensures.typed)

pub requirement_at-requires-clause-minimal : goal.requirement_at-requires-clause-minimal
requirement_at-requires-clause-minimal c =
    subst (IsMinimal (Links c.args.by.now.rules.now)) (sym c.symbols-left.ensures) c.requires.0

pub requirement_at-requires-clause-t : goal.requirement_at-requires-clause-t
requirement_at-requires-clause-t c = (rw c.in-Some.is at c.in_ok-at.ensures.typed).0

pub requirement_at-requires-clause-typed : goal.requirement_at-requires-clause-typed
requirement_at-requires-clause-typed c = (rw c.in-Some.is at c.in_ok-at.ensures.typed).1

pub returns-in-Some-clause-requirement : goal.returns-in-Some-clause-requirement
returns-in-Some-clause-requirement c =
    rw (c.symbols-left.ensures, c.symbols-right.ensures) at c.requirement_at.ensures.requirement
