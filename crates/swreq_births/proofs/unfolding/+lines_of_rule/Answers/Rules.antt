-- The answers on how a rule unfolds: by its two ends, by its birth, and of a pair.
use Rattle.std.proofs.Common.{length, refl, sym, ap, ap₂, subst, arith, ◌≡◌, ◌-◌, ◌∙◌, ◌<◌, take, Some, slice_get}
use Rattle.std.proofs.lemmas.{Option.{same_Some, slice_get_within}, Result.{on_ok_weaker}}
use Rattle.swreq_param.specs.Tables.{term_at}
use Rattle.swreq_complete.specs.{swreq_path.Paths.{HasTarget}, swreq_rule.Oriented.{IsOriented}}
use Rattle.swreq_births.proofs.{PairParts.{meet_at}}
use Rattle.swreq_readings.{specs.Readable.{read_word, AllowsWord}, proofs.ReadingLemmas.{is_still, both_still, term_still, word_still}}
use Rattle.swreq_births.specs.{Systems.{rules_at, HasRule, ReducesTo, system_at, systems_of}, declared.history.Equation.{Equation}}
use Rattle.swreq_births.specs.{declared.history.System.{System}, Heads.{IsHeadStated}, Pairs.{first_made}}
use Rattle.swreq_births.proofs.{Alike.{both_as, both_before, both_now}, Ends.{ends_at}, Equations.{allowed_still, asked_of}}
use Rattle.swreq_births.proofs.Headed.{born_past, equation_asks, first_asked, first_before, given_at, paired_here}
use Rattle.swreq_births.proofs.Headed.{rules_until, second_asked, second_before}
use Rattle.swreq_derivation.proofs.DerivationLemmas.{continues_anyway, continues_if, continues_then, grows_then}
use Rattle.swreq_births.proofs.unfolding.+lines_of_rule.Goals as goal

-- ---- a rule by its two ends

pub settle-walk_along-requires : goal.settle-walk_along-requires
settle-walk_along-requires t c =
    let s = c.args.derivation.now in
    let w = c.in_ok-forth.ensures.target in
    let target = subst (λ z. HasTarget z c.in_ok-forth.forth w.0) c.rules_before-rules.ensures w.1 in (
      omega (arith, c.decreases),
      (
        record { rules = rules_until c.requires.rule.stands; end = w.0; leads = target },
        record {
          subject = c.requires.words.subject;
          word = subst (AllowsWord c.args.history.now.alphabet s (term_at s.table c.args.subject))
              (sym c.in_ok-forth.ensures.reduction.1.start) c.requires.words.both.left;
        },
      ),
    )

pub settle-walk_along-requires-2 : goal.settle-walk_along-requires-2
settle-walk_along-requires-2 t c =
    let g = c.args.history.now.alphabet in
    let s = c.args.derivation.now in
    let s1 = c.walk_along.new.derivation in
    let g1 = c.in_ok-first.ensures.continues.grows in
    let both = both_now g s s1 g1 c.args.subject _ _ c.requires.words.subject c.requires.words.both in
    let w = c.in_ok-back.ensures.target in
    let target = subst (λ z. HasTarget z c.in_ok-back.back w.0) c.rules_before-rules.ensures w.1 in (
      omega (arith, c.decreases),
      (
        record { rules = rules_until c.requires.rule.stands; end = w.0; leads = target },
        record {
          subject = is_still s s1 g1 c.args.subject c.requires.words.subject;
          word = subst (AllowsWord g s1 (term_at s1.table c.args.subject)) (sym c.in_ok-back.ensures.reduction.1.start) both.right;
        },
      ),
    )

pub settle-close-requires : goal.settle-close-requires
settle-close-requires t c =
    let g = c.args.history.now.alphabet in
    let s = c.args.derivation.now in
    let s1 = c.walk_along.new.derivation in
    let s2 = c.walk_along-2.new.derivation in
    let forth = c.in_ok-forth.ensures in
    let back = c.in_ok-back.ensures in
    let first = c.in_ok-first.ensures in
    let last = c.in_ok-last.ensures in
    let grows = grows_then first.continues.grows last.continues.grows in
    let is = c.requires.words.subject in
    let is_1 = is_still s s1 first.continues.grows c.args.subject is in
    let same = c.rules_before-rules.ensures in
    let r = c.requires.rule.reduces in
    let one = ends_at c.in_ok-forth.forth _ r.first c.in_ok-first.first same forth.target r.first_reduces first.target in
    let two = ends_at c.in_ok-back.back _ r.last c.in_ok-last.last same back.target r.last_reduces last.target in record {
      ends = record {
        subject = is_still s s2 grows c.args.subject is;
        both = both_now g s s2 grows c.args.subject _ _ is c.requires.words.both;
        first = both_as g s2 _ _ _ _ _ _ (sym (term_still s s2 grows c.args.subject is)) forth.reduction.1.start (sym c.symbols.ensures)
            (both_still g s1 s2 last.continues.grows _ _ _ first.both);
        last = both_as g s2 _ _ _ _ _ _ (sym (term_still s1 s2 last.continues.grows c.args.subject is_1)) back.reduction.1.start
            (sym c.symbols-2.ensures) last.both;
      };
      oriented = subst (λ z. IsOriented c.args.rule.now z c.symbols-2.result.now) (one ∙ sym c.symbols.ensures)
          (subst (IsOriented c.args.rule.now r.first) (two ∙ sym c.symbols-2.ensures) r.oriented);
    }

pub settle-returns : goal.settle-returns
settle-returns t c =
    let walked = continues_then c.in_ok-first.ensures.continues c.in_ok-last.ensures.continues in record {
      both = on_ok_weaker c.close.result (both_before _ _ walked.grows c.args.subject c.requires.words.subject) c.close.ensures.both;
      continues = continues_then walked (continues_anyway c.close.ensures.continues);
    }

-- ---- a rule by its birth

pub lines_of_rule-lines_of_rule-requires : goal.lines_of_rule-lines_of_rule-requires
lines_of_rule-lines_of_rule-requires t c =
    let b = c.args.history.now in
    let at = c.args.at in
    let rule = c.args.rule.now in
    let system = c.requires.rule.system in
    let low = (system.history.systems at.system system.within).lower at.rule rule
    (subst (λ (z : System). at.rule < z.base) c.system_at-system.ensures c.if-at-system.true) c.requires.rule.is in
    let same : c.system_at-system.result.now.below ≡ (system_at b at.system).below = ap (λ (z : System). z.below)
    c.system_at-system.ensures in
    let below : (system_at b at.system).below < at.system = low.0 in
    let within : at.system < length (systems_of b) = system.within in
    let there : HasRule b (record { system = c.system_at-system.result.now.below; rule = at.rule }) rule = record {
      system = record { history = system.history; within = omega (arith, same, below, within) };
      is = subst (λ z. slice_get (rules_at b z) at.rule ≡ Some rule) (sym same) low.1;
    } in (
      omega (arith, c.decreases, same, below),
      record { rule = there; subject = c.requires.subject; head = c.requires.head },
    )

pub lines_of_rule-equation_at-equation-requires : goal.lines_of_rule-equation_at-equation-requires
lines_of_rule-equation_at-equation-requires t c =
    let v = system_at c.args.history.now c.args.at.system in
    let number = c.in-Given.n in
    let born = born_past c.system_at-system.ensures c.if-at-system.false c.in-Given.is in
    let b = given_at c.requires.rule number born in
    let above : 0 < number = b.above in
    let within : number - 1 < length v.given = slice_get_within v.given (number - 1) b.equation b.is_there in
    (c.requires.rule.system.within, b.above, omega (arith, above, within))

pub lines_of_rule-give_equation-requires : goal.lines_of_rule-give_equation-requires
lines_of_rule-give_equation-requires t c =
    let g = c.args.history.now.alphabet in
    let s1 = c.are_read_equal.new.derivation in
    let left = c.args.rule.now.left in
    let there = c.equation_at-equation.ensures in
    let born = born_past c.system_at-system.ensures c.if-at-system.false c.in-Given.is in
    let (is, head) = allowed_still g c.args.derivation.now s1 c.in_ok-said.ensures.continues.grows c.args.subject left c.requires.subject
    c.requires.head in
    let asks = equation_asks c.requires.rule c.in-Given.n c.equation_at-equation.result.now born there in
    let allows = asked_of g s1 (term_at s1.table c.args.subject) left asks.asked head asks.second in (
      omega (arith, c.decreases),
      record {
        equation = record { system = c.requires.rule.system; there = (c.in-Given.n - 1, there) };
        subject = is;
        head = (asks.asked, asks.first, allows);
      },
    )

pub lines_of_rule-settle-requires : goal.lines_of_rule-settle-requires
lines_of_rule-settle-requires t c =
    let s1 = c.are_read_equal.new.derivation in
    let s2 = c.give_equation.new.derivation in
    let rule = c.args.rule.now in
    let rules = rules_at c.args.history.now c.args.at.system in
    let given = c.in_ok-give_equation-in-Given.ensures in
    let is = is_still c.args.derivation.now s1 c.in_ok-said.ensures.continues.grows c.args.subject c.requires.subject in
    let born = born_past c.system_at-system.ensures c.if-at-system.false c.in-Given.is in
    let b = given_at c.requires.rule c.in-Given.n born in
    let e : b.equation ≡ c.equation_at-equation.result.now = same_Some _ _ (sym b.is_there ∙ c.equation_at-equation.ensures) in
    let left = ap (λ (z : Equation). z.left) e ∙ sym c.sides_of.ensures.from in
    let right = ap (λ (z : Equation). z.right) e ∙ sym c.sides_of.ensures.to in
    let both = both_as c.args.history.now.alphabet s2 (term_at s1.table c.args.subject) (term_at s2.table c.args.subject) _ _ _ _
    (sym (term_still s1 s2 given.continues.grows c.args.subject is)) (sym c.sides_of.ensures.from) (sym c.sides_of.ensures.to) given.both in
    let reduces = subst (λ z. ReducesTo rules c.args.at.rule z c.sides_of.result.to.now rule) left
    (subst (λ z. ReducesTo rules c.args.at.rule b.equation.left z rule) right b.reduces) in (
      omega (arith, c.decreases),
      (
        record { stands = c.requires.rule; reduces = reduces },
        record { subject = is_still s1 s2 given.continues.grows c.args.subject is; both = both },
      ),
    )

pub lines_of_rule-from_pair-requires : goal.lines_of_rule-from_pair-requires
lines_of_rule-from_pair-requires t c =
    let born = born_past c.system_at-system.ensures c.if-at-system.false c.in-Pair.is in
    let (is, allows) = allowed_still c.args.history.now.alphabet c.args.derivation.now c.are_read_equal.new.derivation
    c.in_ok-said.ensures.continues.grows c.args.subject c.args.rule.now.left c.requires.subject c.requires.head in
    (omega (arith, c.decreases), (record { rule = c.requires.rule; subject = is; head = allows }, born))

pub lines_of_rule-returns-in_ok-give_equation-in-Given : goal.lines_of_rule-returns-in_ok-give_equation-in-Given
lines_of_rule-returns-in_ok-give_equation-in-Given t c =
    let said = continues_anyway c.in_ok-said.ensures.continues in
    let given = continues_then said c.in_ok-give_equation-in-Given.ensures.continues in record {
      both = on_ok_weaker c.settle.result (both_before _ _ given.grows c.args.subject c.requires.subject) c.settle.ensures.both;
      continues = continues_then given c.settle.ensures.continues;
    }

pub lines_of_rule-returns-in-Pair : goal.lines_of_rule-returns-in-Pair
lines_of_rule-returns-in-Pair t c =
    let said = c.in_ok-said.ensures.continues in record {
      both = on_ok_weaker c.from_pair.result (both_before _ _ said.grows c.args.subject c.requires.subject) c.from_pair.ensures.both;
      continues = continues_then (continues_anyway said) c.from_pair.ensures.continues;
    }

-- ---- a rule born of a pair

pub from_pair-lines_of_rule-requires : goal.from_pair-lines_of_rule-requires
from_pair-lines_of_rule-requires t c =
    let s = c.args.derivation.now in
    let now = c.requires.asked in
    let p = paired_here now.rule c.args.place c.requires.born c.all_rules-rules.ensures c.rule_of-first.ensures c.rule_of-second.ensures in
    let x = first_before now.rule p c.before-2.result c.before-2.ensures in (
      omega (arith, c.decreases, x.same, x.earlier),
      record { rule = x.there; subject = now.subject; head = first_asked now.rule p s (term_at s.table c.args.subject) now.head },
    )

pub from_pair-lines_of_rule-requires-2 : goal.from_pair-lines_of_rule-requires-2
from_pair-lines_of_rule-requires-2 t c =
    let g = c.args.history.now.alphabet in
    let now = c.requires.asked in
    let p = paired_here now.rule c.args.place c.requires.born c.all_rules-rules.ensures c.rule_of-first.ensures c.rule_of-second.ensures in
    let s = c.args.derivation.now in
    let s1 = c.lines_of_rule.new.derivation in
    let s2 = c.read_word.new.derivation in
    let v = c.in_ok-v.ensures in
    let first = c.in_ok-lines_of_rule.ensures in
    let here = v.stands ∙ ap₂ (read_word g) (term_still s s1 first.continues.grows c.args.subject now.subject)
    (c.first_symbols-part.ensures ∙ ap (take c.args.place.at) c.symbols.ensures) in
    let x = second_before now.rule p c.before-3.result c.before-3.ensures in (
      omega (arith, c.decreases, x.same, x.earlier),
      record {
        rule = x.there;
        subject = v.is_of;
        head = subst (λ z. IsHeadStated g s2 z c.rule_of-second.result.now.left) (sym here)
            (second_asked now.rule p s2 (term_at s.table c.args.subject) (word_still g s1 s2 v.continues.grows _ _ first.both.left));
      },
    )

pub from_pair-read_pair-requires : goal.from_pair-read_pair-requires
from_pair-read_pair-requires t c =
    let g = c.args.history.now.alphabet in
    let now = c.requires.asked in
    let p = paired_here now.rule c.args.place c.requires.born c.all_rules-rules.ensures c.rule_of-first.ensures c.rule_of-second.ensures in
    let s = c.args.derivation.now in
    let s1 = c.lines_of_rule.new.derivation in
    let s3 = c.lines_of_rule-2.new.derivation in
    let v = c.in_ok-v.ensures in
    let first = c.in_ok-lines_of_rule.ensures in
    let second = c.in_ok-lines_of_rule-2.ensures in
    let g13 = grows_then v.continues.grows second.continues.grows in
    let g03 = grows_then first.continues.grows g13 in
    let still = sym (term_still s s3 g03 c.args.subject now.subject) in
    let here = v.stands ∙ ap₂ (read_word g) (term_still s s1 first.continues.grows c.args.subject now.subject ∙ still)
    (c.first_symbols-part.ensures ∙ ap (take c.args.place.at) c.symbols.ensures) in record {
      meet = meet_at p.met;
      subject = is_still s s3 g03 c.args.subject now.subject;
      whole = both_as g s3 _ _ _ _ _ _ still refl refl (both_still g s1 s3 g13 _ _ _ first.both);
      part = both_as g s3 _ _ _ _ _ _ here refl refl second.both;
    }

pub from_pair-settle-requires : goal.from_pair-settle-requires
from_pair-settle-requires t c =
    let g = c.args.history.now.alphabet in
    let now = c.requires.asked in
    let p = paired_here now.rule c.args.place c.requires.born c.all_rules-rules.ensures c.rule_of-first.ensures c.rule_of-second.ensures in
    let s = c.args.derivation.now in
    let s3 = c.lines_of_rule-2.new.derivation in
    let s4 = c.read_pair.new.derivation in
    let pair = c.in_ok-left.ensures in
    let g03 = grows_then c.in_ok-lines_of_rule.ensures.continues.grows
    (grows_then c.in_ok-v.ensures.continues.grows c.in_ok-lines_of_rule-2.ensures.continues.grows) in
    let is = is_still s s3 g03 c.args.subject now.subject in
    let left = c.deref.ensures.value in
    let right = c.deref-2.ensures.value in
    let rules = rules_at c.args.history.now c.args.at.system in
    let made = first_made c.rule_of-first.result.now c.rule_of-second.result.now c.args.place.at in
    let reduces = subst (λ z. ReducesTo rules c.args.at.rule z c.deref-2.result.now c.args.rule.now) (sym (left ∙ pair.left))
    (subst (λ z. ReducesTo rules c.args.at.rule made z c.args.rule.now) (sym (right ∙ pair.right)) p.reduces) in (
      omega (arith, c.decreases),
      (
        record { stands = now.rule; reduces = reduces },
        record {
          subject = is_still s3 s4 pair.continues.grows c.args.subject is;
          both = both_as g s4 _ _ _ _ _ _ (sym (term_still s3 s4 pair.continues.grows c.args.subject is)) (sym left) (sym right) pair.both;
        },
      ),
    )

pub from_pair-returns : goal.from_pair-returns
from_pair-returns t c =
    let first = continues_then c.in_ok-lines_of_rule.ensures.continues (continues_anyway c.in_ok-v.ensures.continues) in
    let pair = continues_if (λ b f. f.alphabet) c.in_ok-left.ensures.continues in
    let met = continues_then first (continues_then c.in_ok-lines_of_rule-2.ensures.continues pair) in record {
      both = on_ok_weaker c.settle.result (both_before _ _ met.grows c.args.subject c.requires.asked.subject) c.settle.ensures.both;
      continues = continues_then met c.settle.ensures.continues;
    }
