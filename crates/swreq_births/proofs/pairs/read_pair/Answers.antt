use Rattle.std.proofs.Common.{◌++◌, drop, take, refl, sym, ap, ap₂, subst, ◌∙◌}
use Rattle.swreq_param.specs.Tables.{term_at}
use Rattle.swreq_readings.{specs.Readable.{AllowsWord, read_word}, proofs.ReadingLemmas.{both_still, is_still, term_still}}
use Rattle.swreq_derivation.proofs.DerivationLemmas.{continues_anyway, continues_then, grows_then}
use Rattle.swreq_births.{specs.Pairs.{past}, proofs.Alike.{both_as, word_met}}
use Rattle.swreq_births.proofs.pairs.read_pair.Goals as goal

pub put_in-requires : goal.put_in-requires
put_in-requires c =
    let g = c.args.alphabet.now in
    let s = c.args.derivation.now in
    let top = term_at s.table c.args.subject in
    let whole = c.rule_sides-whole.ensures in
    let after = c.later_symbols-after.ensures
    ∙ ap₂ past c.rule_sides-part.ensures.from (c.later_symbols-rest.ensures ∙ ap (drop c.args.at) whole.from) in record {
      subject = c.requires.subject;
      both = both_as g s top top _ _ _ _ refl (sym whole.from) (sym whole.to) c.requires.whole;
      word = subst (AllowsWord g s top) (ap₂ (λ y z. y ++ z) (sym whole.from) (sym after))
          (word_met g s top c.args.first.now c.args.second.now c.args.at c.requires.meet c.requires.whole.left c.requires.part.left);
    }

pub put_in-requires-2 : goal.put_in-requires-2
put_in-requires-2 c =
    let g = c.args.alphabet.now in
    let s = c.args.derivation.now in
    let s1 = c.put_in.new.derivation in
    let t = c.args.subject in
    let put = c.in_ok-word.ensures in
    let whole = c.rule_sides-whole.ensures.from in
    let part = c.rule_sides-part.ensures in
    let rest = c.later_symbols-rest.ensures ∙ ap (drop c.args.at) whole in
    let after = c.later_symbols-after.ensures ∙ ap₂ past part.from rest in
    let front = c.first_symbols-before.ensures ∙ ap (take c.args.at) whole in
    let behind = c.later_symbols-behind.ensures ∙ ap₂ past rest part.from in
    let now = sym (term_still s s1 put.continues.grows t c.requires.subject) in
    let word = put.from ∙ ap₂ (λ y z. y ++ z) whole after ∙ c.requires.meet
    ∙ sym (ap₂ (λ y z. y ++ z) front (ap₂ (λ y z. y ++ z) part.from behind)) in record {
      subject = is_still s s1 put.continues.grows t c.requires.subject;
      both = both_as g s1 _ _ _ _ _ _ (ap₂ (read_word g) now (sym front)) (sym part.from) (sym part.to)
          (both_still g s s1 put.continues.grows _ _ _ c.requires.part);
      word = subst (λ z. AllowsWord g s1 z (c.first_symbols-before.result.now ++ (c.rule_sides-part.result.from.now
          ++ c.later_symbols-behind.result.now))) now (subst (AllowsWord g s1 (term_at s.table t)) word put.both.left);
    }

pub join_at-requires : goal.join_at-requires
join_at-requires c =
    let g = c.args.alphabet.now in
    let s = c.args.derivation.now in
    let s1 = c.put_in.new.derivation in
    let s2 = c.put_in-2.new.derivation in
    let t = c.args.subject in
    let put = c.in_ok-word.ensures in
    let both = c.in_ok-right.ensures in
    let whole = c.rule_sides-whole.ensures.from in
    let part = c.rule_sides-part.ensures.from in
    let rest = c.later_symbols-rest.ensures ∙ ap (drop c.args.at) whole in
    let after = c.later_symbols-after.ensures ∙ ap₂ past part rest in
    let front = c.first_symbols-before.ensures ∙ ap (take c.args.at) whole in
    let behind = c.later_symbols-behind.ensures ∙ ap₂ past rest part in
    let word = put.from ∙ ap₂ (λ y z. y ++ z) whole after ∙ c.requires.meet
    ∙ sym (ap₂ (λ y z. y ++ z) front (ap₂ (λ y z. y ++ z) part behind)) in
    let grows = grows_then put.continues.grows both.continues.grows in
    let via = sym c.deref.ensures.value in
    let is = is_still s s1 put.continues.grows t c.requires.subject in record {
      subject = is_still s s2 grows t c.requires.subject;
      first = both_as g s2 _ _ _ _ _ _ (sym (term_still s s2 grows t c.requires.subject)) via (sym c.deref-2.ensures.value)
          (both_still g s1 s2 both.continues.grows _ _ _ put.both);
      second = both_as g s2 _ _ _ _ _ _ (sym (term_still s1 s2 both.continues.grows t is)) (both.from ∙ sym word ∙ via)
          (sym c.deref-3.ensures.value) both.both;
    }

pub returns-clause-both : goal.returns-clause-both
returns-clause-both c =
    let grows = grows_then c.in_ok-word.ensures.continues.grows c.in_ok-right.ensures.continues.grows in
    both_as c.args.alphabet.now c.join_at.new.derivation _ _ _ _ _ _
    (term_still c.args.derivation.now c.put_in-2.new.derivation grows c.args.subject c.requires.subject) c.deref-2.ensures.value
    c.deref-3.ensures.value c.in_ok-join_at.ensures.both

pub returns-clause-continues : goal.returns-clause-continues
returns-clause-continues c =
    continues_then (continues_then c.in_ok-word.ensures.continues c.in_ok-right.ensures.continues) (continues_anyway
    c.in_ok-join_at.ensures.continues)

pub returns-in_err-right-clause-continues : goal.returns-in_err-right-clause-continues
returns-in_err-right-clause-continues c = continues_then c.in_ok-word.ensures.continues c.in_err-right.ensures.continues

pub returns-in_err-join_at-clause-continues : goal.returns-in_err-join_at-clause-continues
returns-in_err-join_at-clause-continues c =
    continues_then (continues_then c.in_ok-word.ensures.continues c.in_ok-right.ensures.continues) (continues_anyway
    c.in_err-join_at.ensures.continues)
