use Rattle.std.proofs.Common.{◌++◌, sym, subst}
use Rattle.std.proofs.lemmas.Result.{on_ok_weaker}
use Rattle.swreq_derive.specs.swreq_param.Tables.{term_at}
use Rattle.swreq_readings.{specs.Readable.{AreReadEqual, read_word}, proofs.ReadingLemmas.{both_still, term_still, word_at, word_still}}
use Rattle.swreq_derivation.proofs.DerivationLemmas.{continues_anyway, continues_then, grows_then}
use Rattle.swreq_readings.proofs.putting.replace_back.Goals as goal

pub turn-requires-clause-both : goal.turn-requires-clause-both
turn-requires-clause-both c =
    let g = c.args.alphabet.now in
    let s = c.args.derivation.now in
    let s1 = c.read_word.new.derivation in
    subst (λ z. AreReadEqual g s1 z c.args.sides.to.now c.args.sides.from.now) (sym c.in_ok-v.ensures.stands)
    (both_still g s s1 c.in_ok-v.ensures.continues.grows _ _ _ c.requires.both)

pub replace-requires-clause-both : goal.replace-requires-clause-both
replace-requires-clause-both c =
    let g = c.args.alphabet.now in
    let s = c.args.derivation.now in
    let s1 = c.read_word.new.derivation in
    let s2 = c.turn.new.derivation in
    let gr = grows_then c.in_ok-v.ensures.continues.grows c.in_ok-turn.ensures.continues.grows in
    subst (λ z. AreReadEqual g s2 (read_word g z c.args.before.now) c.args.sides.from.now c.args.sides.to.now)
    (sym (term_still s s2 gr c.args.subject c.requires.subject))
    (subst (λ z. AreReadEqual g s2 z c.args.sides.from.now c.args.sides.to.now) c.in_ok-v.ensures.stands c.in_ok-turn.ensures.both)

pub replace-requires-clause-word : goal.replace-requires-clause-word
replace-requires-clause-word c =
    let g = c.args.alphabet.now in
    let s = c.args.derivation.now in
    let s2 = c.turn.new.derivation in
    let gr = grows_then c.in_ok-v.ensures.continues.grows c.in_ok-turn.ensures.continues.grows in
    word_at g s2 (term_at s.table c.args.subject) _ _ (term_still s s2 gr c.args.subject c.requires.subject)
    (word_still g s s2 gr (term_at s.table c.args.subject) _ c.requires.word)

pub returns-clause-both : goal.returns-clause-both
returns-clause-both c =
    let g = c.args.alphabet.now in
    let s = c.args.derivation.now in
    let s2 = c.turn.new.derivation in
    let gr = grows_then c.in_ok-v.ensures.continues.grows c.in_ok-turn.ensures.continues.grows in
    on_ok_weaker c.replace.result (subst (λ z. AreReadEqual g c.replace.new.derivation z (c.args.before.now ++
    (c.args.sides.from.now ++ c.args.after.now))
    (c.args.before.now ++ (c.args.sides.to.now ++ c.args.after.now)))
    (term_still s s2 gr c.args.subject c.requires.subject)) c.replace.ensures.both

pub returns-clause-continues : goal.returns-clause-continues
returns-clause-continues c =
    continues_then (continues_anyway (continues_then c.in_ok-v.ensures.continues c.in_ok-turn.ensures.continues))
    c.replace.ensures.continues

pub returns-in_err-turn-clause-continues : goal.returns-in_err-turn-clause-continues
returns-in_err-turn-clause-continues c = continues_anyway (continues_then c.in_ok-v.ensures.continues c.in_err-turn.ensures.continues)
