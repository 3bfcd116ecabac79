use Rattle.std.proofs.Common.{◌++◌, sym, subst}
use Rattle.std.proofs.lemmas.Result.{on_ok_weaker}
use Rattle.swreq_derive.specs.swreq_param.Tables.{term_at}
use Rattle.swreq_readings.specs.Readable.{AreReadEqual, read_word}
use Rattle.swreq_readings.proofs.ReadingLemmas.{both_behind, both_still, word_at, word_left, word_right, word_still}
use Rattle.swreq_derivation.proofs.DerivationLemmas.{continues_anyway, continues_then, grows_then}
use Rattle.swreq_readings.proofs.putting.replace.Goals as goal

pub put_side-requires-clause-both : goal.put_side-requires-clause-both
put_side-requires-clause-both c =
    let g = c.args.alphabet.now in
    let s = c.args.derivation.now in
    let s1 = c.read_word.new.derivation in
    subst (λ z. AreReadEqual g s1 z c.args.sides.from.now c.args.sides.to.now) (sym c.in_ok-v.ensures.stands)
    (both_still g s s1 c.in_ok-v.ensures.continues.grows _ _ _ c.requires.both)

pub put_side-requires-clause-word : goal.put_side-requires-clause-word
put_side-requires-clause-word c =
    let g = c.args.alphabet.now in
    let s = c.args.derivation.now in
    let s1 = c.read_word.new.derivation in
    let t = term_at s.table c.args.subject in
    word_at g s1 (read_word g t c.args.before.now) _ _ c.in_ok-v.ensures.stands
    (word_right g s1 t c.args.before.now _ (word_still g s s1 c.in_ok-v.ensures.continues.grows t _ c.requires.word))

pub returns-clause-both : goal.returns-clause-both
returns-clause-both c =
    let g = c.args.alphabet.now in
    let s = c.args.derivation.now in
    let s1 = c.read_word.new.derivation in
    let n = c.put_side.new.derivation in
    let t = term_at s.table c.args.subject in
    let gr = grows_then c.in_ok-v.ensures.continues.grows c.put_side.ensures.continues.grows in
    on_ok_weaker c.put_side.result (λ both. both_behind g n t c.args.before.now (c.args.sides.from.now ++ c.args.after.now)
    (c.args.sides.to.now ++ c.args.after.now)
    (word_left g n t c.args.before.now _ (word_still g s n gr t _ c.requires.word))
    (subst (λ z. AreReadEqual g n z (c.args.sides.from.now ++ c.args.after.now)
    (c.args.sides.to.now ++ c.args.after.now)) c.in_ok-v.ensures.stands both)) c.put_side.ensures.both

pub returns-clause-continues : goal.returns-clause-continues
returns-clause-continues c = continues_then (continues_anyway c.in_ok-v.ensures.continues) c.put_side.ensures.continues
