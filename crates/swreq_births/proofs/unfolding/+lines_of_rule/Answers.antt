-- The answers. The long ones stand in the folder `Answers`, in one file for each subject.
pub mod Paths
pub mod Rules
pub mod Requirements
pub mod TypeParameters
use Rattle.std.proofs.Common.{arith, refl, subst, sym}
use Rattle.swreq_complete.specs.swreq_pair.Pairs.{IsNumberOf}
use Rattle.swreq_derivation.proofs.DerivationLemmas.{continues_anyway, continues_if, continues_then, grows_then}
use Rattle.swreq_readings.proofs.ReadingLemmas.{is_still}
use Rattle.swreq_births.proofs.{Alike.{both_as}, Equations.{scope_still, sides_as}, Headed.{paired_at}, PathSteps.{is_number}}
use Rattle.swreq_births.proofs.Readings.{bound_put}
use Rattle.swreq_births.proofs.unfolding.+lines_of_rule.Answers.Paths as paths
use Rattle.swreq_births.proofs.unfolding.+lines_of_rule.Answers.Rules as rules
use Rattle.swreq_births.proofs.unfolding.+lines_of_rule.Answers.Requirements as requirements
use Rattle.swreq_births.proofs.unfolding.+lines_of_rule.Answers.TypeParameters as type_parameters
use Rattle.swreq_births.proofs.unfolding.+lines_of_rule.Goals as goal

-- ---- along a path

pub walk_along-rule_of-rule-requires : goal.walk_along-rule_of-rule-requires
walk_along-rule_of-rule-requires = paths.walk_along-rule_of-rule-requires

pub walk_along-lines_of_rule-requires : goal.walk_along-lines_of_rule-requires
walk_along-lines_of_rule-requires = paths.walk_along-lines_of_rule-requires

pub walk_along-take_step-requires : goal.walk_along-take_step-requires
walk_along-take_step-requires = paths.walk_along-take_step-requires

pub walk_along-join-requires : goal.walk_along-join-requires
walk_along-join-requires = paths.walk_along-join-requires

pub walk_along-loop-k-preserved : goal.walk_along-loop-k-preserved
walk_along-loop-k-preserved = paths.walk_along-loop-k-preserved

-- ---- a rule by its two ends

pub settle-walk_along-requires : goal.settle-walk_along-requires
settle-walk_along-requires = rules.settle-walk_along-requires

pub settle-walk_along-requires-2 : goal.settle-walk_along-requires-2
settle-walk_along-requires-2 = rules.settle-walk_along-requires-2

pub settle-close-requires : goal.settle-close-requires
settle-close-requires = rules.settle-close-requires

pub settle-returns : goal.settle-returns
settle-returns = rules.settle-returns

-- ---- a rule by its birth

pub lines_of_rule-lines_of_rule-requires : goal.lines_of_rule-lines_of_rule-requires
lines_of_rule-lines_of_rule-requires = rules.lines_of_rule-lines_of_rule-requires

pub lines_of_rule-returns-then-said-clause-both : goal.lines_of_rule-returns-then-said-clause-both
lines_of_rule-returns-then-said-clause-both t c =
    both_as c.args.history.now.alphabet c.are_read_equal.new.derivation _ _ _ _ _ _ refl c.symbols-left.ensures c.symbols-right.ensures
    (c.in_ok-said.ensures.told.0 c.if-said.true)

pub lines_of_rule-equation_at-equation-requires : goal.lines_of_rule-equation_at-equation-requires
lines_of_rule-equation_at-equation-requires = rules.lines_of_rule-equation_at-equation-requires

pub lines_of_rule-give_equation-requires : goal.lines_of_rule-give_equation-requires
lines_of_rule-give_equation-requires = rules.lines_of_rule-give_equation-requires

pub lines_of_rule-settle-requires : goal.lines_of_rule-settle-requires
lines_of_rule-settle-requires = rules.lines_of_rule-settle-requires

pub lines_of_rule-from_pair-requires : goal.lines_of_rule-from_pair-requires
lines_of_rule-from_pair-requires = rules.lines_of_rule-from_pair-requires

pub lines_of_rule-returns-in_ok-give_equation-in-Given : goal.lines_of_rule-returns-in_ok-give_equation-in-Given
lines_of_rule-returns-in_ok-give_equation-in-Given = rules.lines_of_rule-returns-in_ok-give_equation-in-Given

pub lines_of_rule-returns-in-Pair : goal.lines_of_rule-returns-in-Pair
lines_of_rule-returns-in-Pair = rules.lines_of_rule-returns-in-Pair

-- ---- a rule born of a pair

pub from_pair-rule_of-first-requires : goal.from_pair-rule_of-first-requires
from_pair-rule_of-first-requires t c =
    let (first, second, p) = paired_at c.requires.asked.rule c.args.place c.requires.born in
    subst (λ z. IsNumberOf z c.args.place.i) (sym c.all_rules-rules.ensures) (is_number _ _ _ p.is_first)

pub from_pair-rule_of-second-requires : goal.from_pair-rule_of-second-requires
from_pair-rule_of-second-requires t c =
    let (first, second, p) = paired_at c.requires.asked.rule c.args.place c.requires.born in
    subst (λ z. IsNumberOf z c.args.place.j) (sym c.all_rules-rules.ensures) (is_number _ _ _ p.is_second)

pub from_pair-lines_of_rule-requires : goal.from_pair-lines_of_rule-requires
from_pair-lines_of_rule-requires = rules.from_pair-lines_of_rule-requires

pub from_pair-lines_of_rule-requires-2 : goal.from_pair-lines_of_rule-requires-2
from_pair-lines_of_rule-requires-2 = rules.from_pair-lines_of_rule-requires-2

pub from_pair-read_pair-requires : goal.from_pair-read_pair-requires
from_pair-read_pair-requires = rules.from_pair-read_pair-requires

pub from_pair-settle-requires : goal.from_pair-settle-requires
from_pair-settle-requires = rules.from_pair-settle-requires

pub from_pair-returns : goal.from_pair-returns
from_pair-returns = rules.from_pair-returns

-- ---- equations

pub give_equation-returns-in-Doubled-clause-both : goal.give_equation-returns-in-Doubled-clause-both
give_equation-returns-in-Doubled-clause-both = requirements.give_equation-returns-in-Doubled-clause-both

pub give_equation-inherit-requires : goal.give_equation-inherit-requires
give_equation-inherit-requires = requirements.give_equation-inherit-requires

pub give_equation-returns-in-Named-clause-both : goal.give_equation-returns-in-Named-clause-both
give_equation-returns-in-Named-clause-both = requirements.give_equation-returns-in-Named-clause-both

pub give_equation-give_required-requires : goal.give_equation-give_required-requires
give_equation-give_required-requires = requirements.give_equation-give_required-requires

pub give_equation-returns-in-Required-clause-continues : goal.give_equation-returns-in-Required-clause-continues
give_equation-returns-in-Required-clause-continues = requirements.give_equation-returns-in-Required-clause-continues

-- ---- requirements

pub give_required-give_bound-requires : goal.give_required-give_bound-requires
give_required-give_bound-requires t c =
    (omega (arith, c.decreases), (c.requires.scope, (sides_as _ _ _ _ _ _ _ c.in-Conf.is c.requires.shown).0))

pub give_required-returns-in-Conf : goal.give_required-returns-in-Conf
give_required-returns-in-Conf = requirements.give_required-returns-in-Conf

pub give_required-give_bound-requires-in-Layout : goal.give_required-give_bound-requires-in-Layout
give_required-give_bound-requires-in-Layout t c =
    (omega (arith, c.decreases), (c.requires.scope, (sides_as _ _ _ _ _ _ _ c.in-Layout.is c.requires.shown).0))

pub give_required-returns-in-Layout : goal.give_required-returns-in-Layout
give_required-returns-in-Layout = requirements.give_required-returns-in-Layout

pub give_required-read_type-requires : goal.give_required-read_type-requires
give_required-read_type-requires t c =
    (omega (arith, c.decreases), (c.requires.scope, (sides_as _ _ _ _ _ _ _ c.in-Same.is c.requires.shown).0))

pub give_required-read_type-requires-in-Same : goal.give_required-read_type-requires-in-Same
give_required-read_type-requires-in-Same t c =
    let shown = sides_as _ _ _ _ _ _ _ c.in-Same.is c.requires.shown in
    (omega (arith, c.decreases), (scope_still c.requires.scope c.in_ok-u-in-Same.ensures.continues.grows, shown.1))

pub give_required-give_same-requires : goal.give_required-give_same-requires
give_required-give_same-requires = requirements.give_required-give_same-requires

pub give_required-returns-in_ok-v-in-Same-clause-continues : goal.give_required-returns-in_ok-v-in-Same-clause-continues
give_required-returns-in_ok-v-in-Same-clause-continues = requirements.give_required-returns-in_ok-v-in-Same-clause-continues

-- ---- requirements of a bound

pub give_bound-read_type-requires : goal.give_bound-read_type-requires
give_bound-read_type-requires t c = (omega (arith, c.decreases), (c.requires.scope, c.requires.shown))

pub give_bound-add_requirement-requires : goal.give_bound-add_requirement-requires
give_bound-add_requirement-requires = requirements.give_bound-add_requirement-requires

pub give_bound-read_word-requires : goal.give_bound-read_word-requires
give_bound-read_word-requires t c =
    let grows = grows_then c.in_ok-subject.ensures.continues.grows c.in_ok-add_requirement.ensures.continues.grows in
    record { subject = is_still c.args.derivation.now _ grows c.args.scope.for_self c.requires.scope.for_self }

pub give_bound-carry_bound-requires : goal.give_bound-carry_bound-requires
give_bound-carry_bound-requires = requirements.give_bound-carry_bound-requires

pub give_bound-returns : goal.give_bound-returns
give_bound-returns = requirements.give_bound-returns

pub give_bound-returns-in_err-add_requirement-clause-continues : goal.give_bound-returns-in_err-add_requirement-clause-continues
give_bound-returns-in_err-add_requirement-clause-continues t c =
    let u = c.in_ok-subject.ensures in
    bound_put _ _ _ _ c.in_ok-subject.subject _ c.args.bounded.1 _ c.requires.scope.for_self u.stands c.bound_requirement.ensures
    (λ b f. f.1) (continues_if (λ b f. f.0) u.continues) c.in_err-add_requirement.ensures.continues

pub give_bound-returns-in_err-last-clause-continues : goal.give_bound-returns-in_err-last-clause-continues
give_bound-returns-in_err-last-clause-continues = requirements.give_bound-returns-in_err-last-clause-continues

-- ---- type parameters

pub read_type-loop-k-init : goal.read_type-loop-k-init
read_type-loop-k-init = type_parameters.read_type-loop-k-init

pub read_type-declare-requires : goal.read_type-declare-requires
read_type-declare-requires = type_parameters.read_type-declare-requires

pub read_type-read_word-requires : goal.read_type-read_word-requires
read_type-read_word-requires t c =
    let grows = grows_then c.loop-k.invariant.continues.grows c.in_ok-named.ensures.continues.grows in
    record { subject = is_still c.args.derivation.now c.declare.new.derivation grows c.args.scope.for_self c.requires.scope.for_self }

pub read_type-equal_member-requires : goal.read_type-equal_member-requires
read_type-equal_member-requires = type_parameters.read_type-equal_member-requires

pub read_type-loop-k-preserved : goal.read_type-loop-k-preserved
read_type-loop-k-preserved = type_parameters.read_type-loop-k-preserved

pub read_type-returns : goal.read_type-returns
read_type-returns = type_parameters.read_type-returns

-- ---- steps of type parameters

pub declare-shown_step-requires : goal.declare-shown_step-requires
declare-shown_step-requires = type_parameters.declare-shown_step-requires

pub declare-walk_along-requires : goal.declare-walk_along-requires
declare-walk_along-requires = type_parameters.declare-walk_along-requires

pub declare-returns-in-Some-clause-given : goal.declare-returns-in-Some-clause-given
declare-returns-in-Some-clause-given = type_parameters.declare-returns-in-Some-clause-given

pub declare-returns-in-Some-clause-continues : goal.declare-returns-in-Some-clause-continues
declare-returns-in-Some-clause-continues t c =
    continues_then (continues_anyway c.in_ok-last.ensures.continues) c.in_ok-named.ensures.continues

pub declare-returns-in_ok-walk_along-in-None : goal.declare-returns-in_ok-walk_along-in-None
declare-returns-in_ok-walk_along-in-None = type_parameters.declare-returns-in_ok-walk_along-in-None

-- ---- where memory runs out

pub walk_along-returns-in_err-v-clause-continues : goal.walk_along-returns-in_err-v-clause-continues
walk_along-returns-in_err-v-clause-continues t c =
    continues_then c.loop-k.invariant.continues (continues_anyway c.in_err-v.ensures.continues)

pub walk_along-returns-in_err-lines_of_rule-clause-continues : goal.walk_along-returns-in_err-lines_of_rule-clause-continues
walk_along-returns-in_err-lines_of_rule-clause-continues t c =
    continues_then (continues_then c.loop-k.invariant.continues (continues_anyway c.in_ok-v.ensures.continues))
    c.in_err-lines_of_rule.ensures.continues

pub walk_along-returns-in_err-take_step-clause-continues : goal.walk_along-returns-in_err-take_step-clause-continues
walk_along-returns-in_err-take_step-clause-continues t c =
    continues_then (continues_then (continues_then c.loop-k.invariant.continues (continues_anyway c.in_ok-v.ensures.continues))
    c.in_ok-lines_of_rule.ensures.continues) (continues_if (λ b f. f.alphabet) c.in_err-take_step.ensures.continues)

pub walk_along-returns-in_err-next-clause-continues : goal.walk_along-returns-in_err-next-clause-continues
walk_along-returns-in_err-next-clause-continues t c =
    continues_then (continues_then (continues_then c.loop-k.invariant.continues (continues_anyway c.in_ok-v.ensures.continues))
    c.in_ok-lines_of_rule.ensures.continues) (continues_if (λ b f. f.alphabet) c.in_ok-take_step.ensures.continues)

pub walk_along-returns-in_err-join-clause-continues : goal.walk_along-returns-in_err-join-clause-continues
walk_along-returns-in_err-join-clause-continues t c =
    continues_then (continues_then (continues_then (continues_then c.loop-k.invariant.continues (continues_anyway
    c.in_ok-v.ensures.continues)) c.in_ok-lines_of_rule.ensures.continues) (continues_if (λ b f. f.alphabet)
    c.in_ok-take_step.ensures.continues)) (continues_anyway c.in_err-join.ensures.continues)

pub settle-returns-in_err-last-clause-continues : goal.settle-returns-in_err-last-clause-continues
settle-returns-in_err-last-clause-continues t c = continues_then c.in_ok-first.ensures.continues c.in_err-last.ensures.continues

pub lines_of_rule-returns-in_err-give_equation-in-Given-clause-continues :
    goal.lines_of_rule-returns-in_err-give_equation-in-Given-clause-continues
lines_of_rule-returns-in_err-give_equation-in-Given-clause-continues t c =
    continues_then (continues_anyway c.in_ok-said.ensures.continues) c.in_err-give_equation-in-Given.ensures.continues

pub from_pair-returns-in_err-v-clause-continues : goal.from_pair-returns-in_err-v-clause-continues
from_pair-returns-in_err-v-clause-continues t c =
    continues_then c.in_ok-lines_of_rule.ensures.continues (continues_anyway c.in_err-v.ensures.continues)

pub from_pair-returns-in_err-lines_of_rule-2-clause-continues : goal.from_pair-returns-in_err-lines_of_rule-2-clause-continues
from_pair-returns-in_err-lines_of_rule-2-clause-continues t c =
    continues_then (continues_then c.in_ok-lines_of_rule.ensures.continues (continues_anyway c.in_ok-v.ensures.continues))
    c.in_err-lines_of_rule-2.ensures.continues

pub from_pair-returns-in_err-left-clause-continues : goal.from_pair-returns-in_err-left-clause-continues
from_pair-returns-in_err-left-clause-continues t c =
    continues_then (continues_then (continues_then c.in_ok-lines_of_rule.ensures.continues (continues_anyway
    c.in_ok-v.ensures.continues)) c.in_ok-lines_of_rule-2.ensures.continues) (continues_if (λ b f. f.alphabet)
    c.in_err-left.ensures.continues)

pub give_required-returns-in_err-v-in-Same-clause-continues : goal.give_required-returns-in_err-v-in-Same-clause-continues
give_required-returns-in_err-v-in-Same-clause-continues t c =
    continues_then (continues_if (λ b f. f.0) c.in_ok-u-in-Same.ensures.continues) (continues_if (λ b f. f.0)
    c.in_err-v-in-Same.ensures.continues)

pub read_type-returns-in_err-named-clause-continues : goal.read_type-returns-in_err-named-clause-continues
read_type-returns-in_err-named-clause-continues t c = continues_then c.loop-k.invariant.continues c.in_err-named.ensures.continues

pub read_type-returns-in_err-last-clause-continues : goal.read_type-returns-in_err-last-clause-continues
read_type-returns-in_err-last-clause-continues t c =
    continues_then (continues_then c.loop-k.invariant.continues c.in_ok-named.ensures.continues) (continues_anyway
    c.in_err-last.ensures.continues)

pub read_type-returns-in_err-at-2-clause-continues : goal.read_type-returns-in_err-at-2-clause-continues
read_type-returns-in_err-at-2-clause-continues t c =
    continues_then (continues_then (continues_then c.loop-k.invariant.continues c.in_ok-named.ensures.continues)
    (continues_anyway c.in_ok-last.ensures.continues)) (continues_if (λ b f. f.alphabet) c.in_err-at-2.ensures.continues)

pub declare-returns-in_err-walk_along-in-None-clause-continues : goal.declare-returns-in_err-walk_along-in-None-clause-continues
declare-returns-in_err-walk_along-in-None-clause-continues t c =
    continues_then (continues_anyway c.in_ok-last.ensures.continues) (continues_then c.in_ok-named.ensures.continues
    c.in_err-walk_along-in-None.ensures.continues)

pub declare-returns-in_err-named-clause-continues : goal.declare-returns-in_err-named-clause-continues
declare-returns-in_err-named-clause-continues t c =
    continues_then (continues_anyway c.in_ok-last.ensures.continues) c.in_err-named.ensures.continues

pub declare-returns-in_err-shown-in-None-clause-continues : goal.declare-returns-in_err-shown-in-None-clause-continues
declare-returns-in_err-shown-in-None-clause-continues t c =
    continues_then (continues_anyway c.in_ok-last.ensures.continues) c.in_ok-named.ensures.continues
