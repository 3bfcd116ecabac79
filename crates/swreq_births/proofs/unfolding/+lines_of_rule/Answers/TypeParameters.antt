-- The answers on type parameters and on their steps.
use Rattle.std.proofs.Common.{◌≤◌, IfSome, length, sym, ap, subst, arith, ◌≡◌, ◌++◌, ◌+◌, ◌∙◌, ◌<◌, take, [], ◌∷◌, inl}
use Rattle.std.proofs.lemmas.List.{take_all}
use Rattle.swreq_param.specs.{Tables.{term_at}, declared.ids.Step.TheVariants.{Name}, Terms.{with_steps, Term.{Generic, Member}}}
use Rattle.swreq_readings.specs.Readable.{IsGiven, read_word, AllowsWord}
use Rattle.swreq_readings.proofs.ReadingLemmas.{is_still, term_still, word_still, equal_as, equal_still, given_still}
use Rattle.swreq_births.{specs.{Systems.{rules_at}, Types.{IsStepShown}}, proofs.Equations.{asked_still, proto_said, scope_still}}
use Rattle.swreq_births.proofs.{Headed.{all_at, all_there}, Readings.{part_given, part_read}}
use Rattle.swreq_births.proofs.ShownSteps.{begins_read, begins_said, placed_member, shown_length, step_at, step_on, with_one}
use Rattle.swreq_derivation.specs.{Origins.{placed}, UnderWay.{States}}
use Rattle.swreq_derivation.proofs.DerivationLemmas.{continues_anyway, continues_if, continues_then, grows_then}
use Rattle.swreq_complete.{specs.swreq_path.Paths.{HasTarget}, proofs.swreq_path.Leading.{one_end}}
use Rattle.swreq_correspondence.specs.swreq_derive.Derivation.{TermRequirement.{Conforms}, TermStatement.{Requires}}
use Rattle.swreq_correspondence.specs.swreq_word.declared.symbols.Symbol.TheVariants.{Proto}
use Rattle.swreq_births.proofs.unfolding.+lines_of_rule.Goals as goal

-- ---- type parameters

pub read_type-loop-k-init : goal.read_type-loop-k-init
read_type-loop-k-init t c =
    let g = c.args.history.now.alphabet in
    let scope = c.args.scope in
    let param = c.args.param.now in
    let rules = rules_at c.args.history.now scope.system in
    let s0 = c.args.derivation.now in
    let top = term_at s0.table scope.for_self in
    let at = c.in_ok-at.ensures in record {
      is_of = at.is_of;
      stands = at.stands;
      word = begins_said g c.start.new.derivation top scope.owner rules param.head param.steps c.args.word.now c.requires.shown
          (asked_still s0 c.start.new.derivation at.continues.grows top scope.owner c.requires.scope.owner);
      equal = inl (sym (begins_read g top scope.owner rules param.head param.steps c.args.word.now c.requires.shown));
      continues = continues_anyway at.continues;
    }

pub read_type-declare-requires : goal.read_type-declare-requires
read_type-declare-requires t c =
    let g = c.args.history.now.alphabet in
    let rules = rules_at c.args.history.now c.args.scope.system in
    let s0 = c.args.derivation.now in
    let s = c.loop-k.derivation in
    let i = c.loop-k.invariant in
    let part = c.first_symbols-part.result.now in
    let step = c.step_at-step.result in
    let at = step_at g c.args.scope.owner rules c.args.param.now.head c.args.param.now.steps c.args.word.now c.requires.shown c.loop-k.k
    step c.step_at-step.ensures in
    let says = subst (λ z. AllowsWord g s z part) (sym (term_still s0 s i.continues.grows c.args.scope.for_self c.requires.scope.for_self))
    (subst (AllowsWord g s (term_at s0.table c.args.scope.for_self)) (sym c.first_symbols-part.ensures) i.word) in
    let shown = subst (λ z. IsStepShown g rules z step) (sym c.first_symbols-part.ensures) at.shown in (
      omega (arith, c.decreases),
      (scope_still c.requires.scope i.continues.grows, (says, shown)),
    )

pub read_type-equal_member-requires : goal.read_type-equal_member-requires
read_type-equal_member-requires t c =
    let g = c.args.history.now.alphabet in
    let s0 = c.args.derivation.now in
    let s = c.loop-k.derivation in
    let s1 = c.declare.new.derivation in
    let s2 = c.read_word.new.derivation in
    let i = c.loop-k.invariant in
    let g1 = c.in_ok-named.ensures.continues.grows in
    let g2 = c.in_ok-last.ensures.continues.grows in
    let g12 = grows_then g1 g2 in
    let step = c.step_at-step.result in
    let named = c.in_ok-named.named in
    let part = take (c.loop-k.k + 1) c.args.word.now in
    let last = part_read g s0 s s1 s2 i.continues.grows g1 c.args.scope.for_self c.requires.scope.for_self c.in_ok-last.last
    c.first_symbols-part.result.now part c.first_symbols-part.ensures c.in_ok-last.ensures.stands in
    let given = given_still g s1 s2 g2 _ step named
    (part_given g s0 s s1 s2 i.continues.grows g1 c.args.scope.for_self c.requires.scope.for_self c.in_ok-last.last
    c.first_symbols-part.result.now part c.first_symbols-part.ensures step named c.in_ok-named.ensures.given) in
    let first = term_still s s2 g12 c.loop-k.at i.is_of ∙ i.stands in
    let equal = equal_as s2 _ _ _ _ first last (equal_still g s s2 g12 _ _ i.equal) in record {
      given = subst (λ z. IsGiven g s2 z step named) (sym last) given;
      equal = (is_still s s2 g12 c.loop-k.at i.is_of, c.in_ok-last.ensures.is_of, equal);
    }

pub read_type-loop-k-preserved : goal.read_type-loop-k-preserved
read_type-loop-k-preserved t c =
    let g = c.args.history.now.alphabet in
    let owner = c.args.scope.owner in
    let rules = rules_at c.args.history.now c.args.scope.system in
    let hd = c.args.param.now.head in
    let xs = c.args.param.now.steps in
    let w = c.args.word.now in
    let s0 = c.args.derivation.now in
    let s = c.loop-k.derivation in
    let s1 = c.declare.new.derivation in
    let s2 = c.read_word.new.derivation in
    let s3 = c.equal_member.new.derivation in
    let top = term_at s0.table c.args.scope.for_self in
    let k = c.loop-k.k in
    let i = c.loop-k.invariant in
    let g1 = c.in_ok-named.ensures.continues.grows in
    let g2 = c.in_ok-last.ensures.continues.grows in
    let member = c.in_ok-at-2.ensures in
    let g12 = grows_then g1 g2 in
    let g13 = grows_then g12 member.continues.grows in
    let x = c.step_at-step.result in
    let n = c.in_ok-named.named in
    let part = take (k + 1) w in
    let last = part_read g s0 s s1 s2 i.continues.grows g1 c.args.scope.for_self c.requires.scope.for_self c.in_ok-last.last
    c.first_symbols-part.result.now part c.first_symbols-part.ensures c.in_ok-last.ensures.stands in
    let given = given_still g s1 s3 (grows_then g2 member.continues.grows) _ x n (part_given g s0 s s1 s2 i.continues.grows g1
    c.args.scope.for_self c.requires.scope.for_self c.in_ok-last.last c.first_symbols-part.result.now part c.first_symbols-part.ensures x n
    c.in_ok-named.ensures.given) in
    let before = term_still s s2 g12 c.loop-k.at i.is_of ∙ i.stands in
    let on = step_on g owner rules hd xs w c.requires.shown s3 top k x n c.step_at-step.ensures (word_still g s s3 g13 top part i.word)
    given (equal_as s3 _ _ _ _ (ap (λ z. Member z x) (sym before)) (ap (λ z. Member z (Name n.name)) (sym last)) member.equal) in record {
      is_of = member.is_of;
      stands = member.stands ∙ ap (λ z. Member z x) before
          ∙ sym (ap (placed owner top) (with_one (Generic hd) xs k x c.step_at-step.ensures)
          ∙ placed_member owner top (with_steps (Generic hd) (take k xs)) x);
      word = on.word;
      equal = on.equal;
      continues = continues_then (continues_then (continues_then i.continues c.in_ok-named.ensures.continues)
          (continues_anyway c.in_ok-last.ensures.continues)) (continues_if (λ b f. f.alphabet) member.continues);
    }

pub read_type-returns : goal.read_type-returns
read_type-returns t c =
    let g = c.args.history.now.alphabet in
    let owner = c.args.scope.owner in
    let hd = c.args.param.now.head in
    let xs = c.args.param.now.steps in
    let w = c.args.word.now in
    let top = term_at c.args.derivation.now.table c.args.scope.for_self in
    let k = c.loop-k.k in
    let i = c.loop-k.invariant in
    let end : length c.items-k-end.result.now ≤ k = c.loop-k-test.false in
    let same : length c.items-k-end.result.now ≡ length xs = ap length c.items-k-end.ensures in
    let all : length w ≡ length xs + 1 = shown_length g owner (rules_at c.args.history.now c.args.scope.system) hd xs w c.requires.shown in
    let whole : take (k + 1) w ≡ w = take_all (k + 1) w (omega (arith, end, same, all)) in
    let steps = ap (λ z. placed owner top (with_steps (Generic hd) z)) (take_all k xs (omega (arith, end, same))) in record {
      is_of = i.is_of;
      stands = i.stands ∙ steps;
      word = subst (AllowsWord g c.loop-k.derivation top) whole i.word;
      equal = equal_as c.loop-k.derivation _ _ _ _ (sym steps) (sym (ap (read_word g top) whole)) i.equal;
      continues = i.continues;
    }

-- ---- steps of type parameters

pub declare-shown_step-requires : goal.declare-shown_step-requires
declare-shown_step-requires t c = record {
  few = subst (λ z. length z < 4294967295) (sym c.all_rules-rules.ensures)
      (c.requires.scope.system.history.systems c.args.scope.system c.requires.scope.system.within).few;
  shown = subst (λ z. IsStepShown c.args.history.now.alphabet z c.args.word.now c.args.step) (sym c.all_rules-rules.ensures)
      c.requires.shown;
}

pub declare-walk_along-requires : goal.declare-walk_along-requires
declare-walk_along-requires t c =
    let b = c.args.history.now in
    let g = b.alphabet in
    let s = c.args.derivation.now in
    let s1 = c.known_step.new.derivation in
    let r = c.args.scope.system in
    let w = c.args.word.now in
    let grows = grows_then c.in_ok-last.ensures.continues.grows c.in_ok-named.ensures.continues.grows in
    let found = c.in_ok-shown-in-None.ensures in
    let shown = c.in_ok-shown-in-None.shown in
    let at = c.all_of-at.result in
    let all = all_at b at r c.all_rules-rules.result.now c.requires.scope.system c.all_of-at.ensures c.all_rules-rules.ensures in
    let same : at.system ≡ r = all.same in
    let few : at.rule < 4294967295 = all.few in
    let says = subst (λ z. AllowsWord g s1 z w) (sym (term_still s s1 grows c.args.scope.for_self c.requires.scope.for_self))
    (word_still g s s1 grows (term_at s.table c.args.scope.for_self) w c.requires.word) in
    let target = subst (λ z. HasTarget z shown.path (w ++ Proto shown.named.proto.rank ∷ [])) (c.all_rules-rules.ensures ∙ sym all.taken)
    found.target in
    let word = subst (AllowsWord g s1 (term_at s1.table c.args.scope.for_self)) (sym found.start) says in
    let is = is_still s s1 grows c.args.scope.for_self c.requires.scope.for_self in (
      omega (arith, c.decreases, same, few),
      (
        record { rules = all_there b at r c.requires.scope.system all; end = _; leads = target },
        record { subject = is; word = word },
      ),
    )

pub declare-returns-in-Some-clause-given : goal.declare-returns-in-Some-clause-given
declare-returns-in-Some-clause-given t c =
    let g = c.args.history.now.alphabet in
    let s1 = c.known_step.new.derivation in
    let last = term_at c.read_word.new.derivation.table c.in_ok-last.last in
    subst (λ z. IsGiven g s1 z c.args.step c.in-Some.named) c.in_ok-last.ensures.stands
    (subst (λ o. IfSome o (IsGiven g s1 last c.args.step)) c.in-Some.is c.in_ok-named.ensures.given)

pub declare-returns-in_ok-walk_along-in-None : goal.declare-returns-in_ok-walk_along-in-None
declare-returns-in_ok-walk_along-in-None t c =
    let b = c.args.history.now in
    let g = b.alphabet in
    let s = c.args.derivation.now in
    let s1 = c.known_step.new.derivation in
    let s2 = c.walk_along.new.derivation in
    let r = c.args.scope.system in
    let w = c.args.word.now in
    let grows = grows_then c.in_ok-last.ensures.continues.grows c.in_ok-named.ensures.continues.grows in
    let now = term_still s s1 grows c.args.scope.for_self c.requires.scope.for_self in
    let found = c.in_ok-shown-in-None.ensures in
    let shown = c.in_ok-shown-in-None.shown in
    let walked = c.in_ok-walk_along-in-None.ensures in
    let all = all_at b c.all_of-at.result r _ c.requires.scope.system c.all_of-at.ensures c.all_rules-rules.ensures in
    let end = one_end (rules_at b r) shown.path.steps shown.path.start _ _
    (subst (λ z. HasTarget z shown.path c.in_ok-walk_along-in-None.field-0) all.taken walked.target)
    (subst (λ z. HasTarget z shown.path (w ++ Proto shown.named.proto.rank ∷ [])) c.all_rules-rules.ensures found.target) in
    let says = subst (λ z. States s2 (Requires (Conforms (read_word g z w) shown.named.proto))) now
    (proto_said g s2 _ w _ shown.named.proto end walked.both.right) in record {
      given = (found.rank, (found.there, found.of_step, says));
      continues = continues_then (continues_then (continues_anyway c.in_ok-last.ensures.continues) c.in_ok-named.ensures.continues)
          walked.continues;
    }
