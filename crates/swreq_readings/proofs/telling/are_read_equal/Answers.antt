use Rattle.std.proofs.Common.{ap, subst, ◌∙◌}
use Rattle.swreq_derive.specs.swreq_param.Tables.{term_at}
use Rattle.swreq_readings.{specs.Readable.{AllowsWord, read_word}, proofs.ReadingLemmas.{both_told, read_as, term_still, word_still}}
use Rattle.swreq_derivation.proofs.DerivationLemmas.{continues_then}
use Rattle.swreq_readings.proofs.telling.are_read_equal.Goals as goal

pub returns-in-None-second-clause-continues : goal.returns-in-None-second-clause-continues
returns-in-None-second-clause-continues c = continues_then c.in_ok-first.ensures.continues c.in_ok-second-in-Some.ensures.continues

pub returns-in-Some-second-clause-continues : goal.returns-in-Some-second-clause-continues
returns-in-Some-second-clause-continues c = continues_then c.in_ok-first.ensures.continues c.in_ok-second-in-Some.ensures.continues

pub returns-in-Some-second-clause-told : goal.returns-in-Some-second-clause-told
returns-in-Some-second-clause-told c =
    let g = c.args.alphabet.now in
    let s0 = c.args.derivation.now in
    let s1 = c.read_if_allowed.new.derivation in
    let s2 = c.read_if_allowed-in-Some.new.derivation in
    let u = c.args.from.now in
    let v = c.args.to.now in
    let grows = c.in_ok-second-in-Some.ensures.continues.grows in
    let t = term_at s0.table c.args.subject in
    let same = term_still s0 s1 c.in_ok-first.ensures.continues.grows c.args.subject c.requires.subject in
    let left = read_as g s1 t u c.in_ok-first.first c.in-Some.left c.in-Some.is c.in_ok-first.ensures.told in
    let right = read_as g s2 (term_at s1.table c.args.subject) v c.in_ok-second-in-Some.second c.in-Some-second.right c.in-Some-second.is
    c.in_ok-second-in-Some.ensures.told in
    both_told g s2 t u v (term_at s2.table c.in-Some.left) (term_at s2.table c.in-Some-second.right) c.are_equal.result
    (term_still s1 s2 grows c.in-Some.left left.0 ∙ left.2) (right.2 ∙ ap (λ z. read_word g z v) same)
    (word_still g s1 s2 grows t u left.1) (subst (λ z. AllowsWord g s2 z v) same right.1) c.are_equal.ensures

pub returns-in_err-second-in-Some-clause-continues : goal.returns-in_err-second-in-Some-clause-continues
returns-in_err-second-in-Some-clause-continues c = continues_then c.in_ok-first.ensures.continues c.in_err-second-in-Some.ensures.continues
