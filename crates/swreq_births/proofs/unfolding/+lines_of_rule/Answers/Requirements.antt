-- The answers on equations and on requirements.
use Rattle.std.proofs.{Common.{List, Some, length, refl, sym, ap, ap₂, subst, arith, ◌<◌, ◌∙◌}, lemmas.Result.{on_ok_weaker}}
use Rattle.swreq_param.specs.{Tables.{IsOf, term_at}, Terms.{Term}}
use Rattle.swreq_correspondence.specs.swreq_derive.Derivation.{TermRequirement.{Conforms, Equals}, TermStatement.{Requires}}
use Rattle.swreq_correspondence.specs.swreq_derive.declared.requirements.Statement.TheVariants.{Holds}
use Rattle.swreq_correspondence.specs.swreq_derive.{Facts.{requirement_of}, Instances.{HasNumber}}
use Rattle.swreq_readings.{specs.Readable.{AllowsName}, proofs.ReadingLemmas.{bound_still, is_still, word_still}}
use Rattle.swreq_births.specs.{Heads.{head_of}, Systems.{IsWritten, requirement_by, rules_at, systems_of, HasShownSides}}
use Rattle.swreq_births.specs.declared.history.Reason.TheVariants.{Doubled, Named, Required}
use Rattle.swreq_births.proofs.Equations.{asked_of, bound_allowed, bound_both, bound_ids, doubled_both, given_as, member_both}
use Rattle.swreq_births.proofs.{Alike.{both_as, both_before}, Equations.{member_is, sides_as, sides_asked}}
use Rattle.swreq_births.proofs.Readings.{bound_put, on_side, placed_now, placed_still, origin_still, side_read, side_still}
use Rattle.swreq_derivation.specs.{Origins.{written_by}, UnderWay.{AreIdsIn, States, bound_on}}
use Rattle.swreq_derivation.proofs.DerivationLemmas.{continues_anyway, continues_if, continues_then, grows_then}
use Rattle.swreq_births.proofs.unfolding.+lines_of_rule.Goals as goal

-- ---- equations

pub give_equation-returns-in-Doubled-clause-both : goal.give_equation-returns-in-Doubled-clause-both
give_equation-returns-in-Doubled-clause-both t c =
    let s = c.args.derivation.now in
    let e = c.args.equation.now in
    let w = given_as c.requires.equation (Doubled c.in-Doubled.proto) c.in-Doubled.is in
    doubled_both c.args.history.now.alphabet s (term_at s.table c.args.subject) e.left e.right c.in-Doubled.proto w.0 w.1 c.requires.head

pub give_equation-inherit-requires : goal.give_equation-inherit-requires
give_equation-inherit-requires t c =
    let g = c.args.history.now.alphabet in
    let s = c.args.derivation.now in
    let w = given_as c.requires.equation (Named c.in-Named.rank) c.in-Named.is in
    let same = sym (c.member_at-named.ensures ∙ member_is g c.in-Named.rank w.0 w.1) in record {
      member = (c.in-Named.rank, w.1 ∙ ap Some same);
      conforms = (
        c.requires.subject,
        subst (λ z. States s (Requires (Conforms (term_at s.table c.args.subject) z.proto))) same
            (asked_of g s _ _ (Some w.0.proto) c.requires.head (ap (head_of g) w.2)),
      );
    }

pub give_equation-returns-in-Named-clause-both : goal.give_equation-returns-in-Named-clause-both
give_equation-returns-in-Named-clause-both t c =
    let g = c.args.history.now.alphabet in
    let w = given_as c.requires.equation (Named c.in-Named.rank) c.in-Named.is in
    let same = c.member_at-named.ensures ∙ member_is g c.in-Named.rank w.0 w.1 in
    let top = term_at c.args.derivation.now.table c.args.subject in
    let says = c.inherit.ensures.continues.grows.stays _ (asked_of g _ top _ (Some w.0.proto) c.requires.head (ap (head_of g) w.2)) in
    on_ok_weaker c.inherit.result (λ name. member_both g _ top _ _ c.in-Named.rank w.0 w.1 w.2 w.3 says
    (subst (λ z. AllowsName g c.inherit.new.derivation top z.name) same name)) c.inherit.ensures.name

pub give_equation-give_required-requires : goal.give_equation-give_required-requires
give_equation-give_required-requires t c =
    let s = c.args.derivation.now in
    let e = c.args.equation.now in
    let x = c.in-Required in
    let g = c.args.history.now.alphabet in
    let w = given_as c.requires.equation (Required x.owner x.number x.requirement x.shown) x.is in
    let rules = rules_at c.args.history.now x.shown in
    let earlier : x.shown < c.args.system = w.0 in
    let within : c.args.system < length (systems_of c.args.history.now) = c.requires.equation.system.within in
    let asked = asked_of g s (term_at s.table c.args.subject) e.left x.owner c.requires.head
    (sides_asked g x.owner rules x.requirement e.left e.right w.1) in
    let words = c.sides_of-words in
    let shown = subst (λ z. HasShownSides g x.owner rules x.requirement z words.result.to.now) (sym words.ensures.from)
    (subst (HasShownSides g x.owner rules x.requirement e.left) (sym words.ensures.to) w.1) in
    let history = c.requires.equation.system.history in (
      omega (arith, c.decreases, earlier),
      (
        record {
          system = record { history = history; within = omega (arith, within, earlier) };
          for_self = c.requires.subject;
          owner = asked;
        },
        shown,
      ),
    )

pub give_equation-returns-in-Required-clause-continues : goal.give_equation-returns-in-Required-clause-continues
give_equation-returns-in-Required-clause-continues t c =
    let there = c.requires.equation.there in
    continues_if (λ b f. (
      f,
      subst (IsWritten b) c.in-Required.is
          (f.written c.args.system there.0 c.args.equation.now c.requires.equation.system.within there.1),
    )) c.give_required.ensures.continues

-- ---- requirements

pub give_required-returns-in-Conf : goal.give_required-returns-in-Conf
give_required-returns-in-Conf t c = record {
  both = on_ok_weaker c.give_bound.result (both_as _ _ _ _ _ _ _ _ refl (sym (sides_as _ _ _ _ _ _ _ c.in-Conf.is c.requires.shown).1) refl)
      c.give_bound.ensures.both;
  continues = continues_if (λ b f. (
    f.0,
    subst (HasNumber c.args.number (written_by b c.args.scope.owner)) (ap requirement_by c.in-Conf.is)
        f.1,
  )) c.give_bound.ensures.continues;
}

pub give_required-returns-in-Layout : goal.give_required-returns-in-Layout
give_required-returns-in-Layout t c = record {
  both = on_ok_weaker c.give_bound-in-Layout.result (both_as _ _ _ _ _ _ _ _ refl
      (sym (sides_as _ _ _ _ _ _ _ c.in-Layout.is c.requires.shown).1) refl) c.give_bound-in-Layout.ensures.both;
  continues = continues_if (λ b f. (
    f.0,
    subst (HasNumber c.args.number (written_by b c.args.scope.owner)) (ap requirement_by c.in-Layout.is)
        f.1,
  )) c.give_bound-in-Layout.ensures.continues;
}

pub give_required-give_same-requires : goal.give_required-give_same-requires
give_required-give_same-requires t c =
    let g = c.args.history.now.alphabet in
    let scope = c.args.scope in
    let now = c.requires.scope in
    let u = c.in_ok-u-in-Same.ensures in
    let v = c.in_ok-v-in-Same.ensures in
    let is = is_still _ _ u.continues.grows scope.for_self now.for_self in record {
      origin = origin_still _ _ (grows_then u.continues.grows v.continues.grows) _ (record { for_self = now.for_self; owner = now.owner });
      left = side_still g _ _ v.continues.grows scope.for_self c.in_ok-u-in-Same.u _ is
          (side_read g _ _ u.continues.grows scope.for_self c.in_ok-u-in-Same.u _ _ now.for_self u.is_of u.stands u.word u.equal);
      right = side_read g _ _ v.continues.grows scope.for_self c.in_ok-v-in-Same.v _ _ is v.is_of v.stands v.word v.equal;
    }

pub give_required-returns-in_ok-v-in-Same-clause-continues : goal.give_required-returns-in_ok-v-in-Same-clause-continues
give_required-returns-in_ok-v-in-Same-clause-continues t c =
    let scope = c.args.scope in
    let u = c.in_ok-u-in-Same.ensures in
    let v = c.in_ok-v-in-Same.ensures in
    let is = c.requires.scope.for_self in
    continues_then (continues_if (λ b f. f.0) (continues_then u.continues v.continues)) (continues_if (λ b f. (
      _,
      subst (HasNumber c.args.number (written_by b scope.owner)) (ap requirement_by c.in-Same.is) f.1,
      ap₂ Equals (placed_still _ _ _ u.continues.grows v.continues.grows scope.owner scope.for_self _ _ is u.is_of u.stands)
          (placed_now _ _ v.continues.grows scope.owner scope.for_self c.in_ok-v-in-Same.v _
          (is_still _ _ u.continues.grows scope.for_self is) v.stands),
    )) c.give_same.ensures.continues)

-- ---- requirements of a bound

pub give_bound-add_requirement-requires : goal.give_bound-add_requirement-requires
give_bound-add_requirement-requires t c =
    let u = c.in_ok-subject.ensures in
    let s1 = c.read_type.new.derivation in record {
      origin = origin_still _ _ u.continues.grows _ (record { for_self = c.requires.scope.for_self; owner = c.requires.scope.owner });
      ids = subst (λ r. AreIdsIn s1.table (Holds r)) (sym c.bound_requirement.ensures)
          (bound_ids s1.table c.args.bounded.1 c.in_ok-subject.subject u.is_of);
    }

pub give_bound-carry_bound-requires : goal.give_bound-carry_bound-requires
give_bound-carry_bound-requires t c =
    let g = c.args.history.now.alphabet in
    let s = c.args.derivation.now in
    let s1 = c.read_type.new.derivation in
    let s2 = c.add_requirement.new.derivation in
    let s3 = c.read_word.new.derivation in
    let scope = c.args.scope in
    let v = c.in_ok-subject.subject in
    let bound = c.args.bounded.1 in
    let u = c.in_ok-subject.ensures in
    let put = c.in_ok-add_requirement.ensures in
    let last = c.in_ok-last.ensures in
    let says = subst (λ r. States s2 (Requires (requirement_of s1.table r))) c.bound_requirement.ensures put.says in
    let is = subst (λ (z : List Term). IsOf z v) (sym put.table) u.is_of in
    let side = side_read g s s1 u.continues.grows scope.for_self v _ _ c.requires.scope.for_self u.is_of u.stands u.word u.equal in
    let x = on_side g s1 s2 s3 put.continues.grows last.continues.grows scope.for_self v c.in_ok-last.last _
    (is_still s s1 u.continues.grows scope.for_self c.requires.scope.for_self) side last.is_of last.stands in record {
      conforms = bound_still s2 s3 last.continues.grows v bound is
          (subst (λ (z : List Term). States s2 (Requires (requirement_of z (bound_on bound v)))) (sym put.table) says);
      equal = x.equal;
    }

pub give_bound-returns : goal.give_bound-returns
give_bound-returns t c =
    let g = c.args.history.now.alphabet in
    let s = c.args.derivation.now in
    let s1 = c.read_type.new.derivation in
    let s3 = c.read_word.new.derivation in
    let s4 = c.carry_bound.new.derivation in
    let scope = c.args.scope in
    let v = c.in_ok-subject.subject in
    let bound = c.args.bounded.1 in
    let is = c.requires.scope.for_self in
    let u = c.in_ok-subject.ensures in
    let put = c.in_ok-add_requirement.ensures in
    let last = c.in_ok-last.ensures in
    let carried = c.carry_bound.ensures in
    let side = side_read g s s1 u.continues.grows scope.for_self v _ _ is u.is_of u.stands u.word u.equal in
    let x = on_side g s1 c.add_requirement.new.derivation s3 put.continues.grows last.continues.grows scope.for_self v c.in_ok-last.last _
    (is_still s s1 u.continues.grows scope.for_self is) side last.is_of last.stands in record {
      both = on_ok_weaker c.carry_bound.result (λ said. both_before s s1 u.continues.grows scope.for_self is (bound_both g s4 _ _ bound
          (word_still g s3 s4 carried.continues.grows _ _ x.word) (bound_allowed g s3 s4 c.in_ok-last.last _ bound x.stands said)))
          carried.conforms;
      continues = continues_then (bound_put s s1 _ _ v _ bound _ is u.stands c.bound_requirement.ensures (λ b f. f.1)
          (continues_if (λ b f. f.0) u.continues) put.continues) (continues_anyway (continues_then last.continues carried.continues));
    }

pub give_bound-returns-in_err-last-clause-continues : goal.give_bound-returns-in_err-last-clause-continues
give_bound-returns-in_err-last-clause-continues t c =
    let u = c.in_ok-subject.ensures in
    continues_then (bound_put _ _ _ _ c.in_ok-subject.subject _ c.args.bounded.1 _ c.requires.scope.for_self u.stands
    c.bound_requirement.ensures (λ b f. f.1) (continues_if (λ b f. f.0) u.continues) c.in_ok-add_requirement.ensures.continues)
    (continues_anyway c.in_err-last.ensures.continues)
