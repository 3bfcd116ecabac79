use Rattle.std.proofs.Common.{sym, ap, ◌∙◌}
use Rattle.swreq_derive.specs.swreq_param.Tables.{term_at}
use Rattle.swreq_readings.specs.Readable.{read_word}
use Rattle.swreq_readings.proofs.ReadingLemmas.{alike_ids, both_still, both_with, equal_as, first_read, second_read, word_at, word_right}
use Rattle.swreq_readings.proofs.ReadingLemmas.{word_still}
use Rattle.swreq_derivation.proofs.DerivationLemmas.{continues_anyway, continues_then, grows_then}
use Rattle.swreq_readings.proofs.putting.put_side.Goals as goal

pub carry_all-requires-clause-equal : goal.carry_all-requires-clause-equal
carry_all-requires-clause-equal c =
    let first = c.in_ok-first.ensures in
    let second = c.in_ok-second.ensures in
    alike_ids c.args.alphabet.now c.args.subject c.requires.subject c.args.from.now c.args.to.now first.continues.grows
    second.continues.grows _ _ first.is_of first.stands second.is_of second.stands c.requires.both.equal

pub carry_all-requires-clause-word : goal.carry_all-requires-clause-word
carry_all-requires-clause-word c =
    let g = c.args.alphabet.now in
    let first = c.in_ok-first.ensures in
    let second = c.in_ok-second.ensures in
    let one = first.continues.grows in
    let two = second.continues.grows in
    let from = c.args.from.now in
    let v = term_at c.args.derivation.now.table c.args.subject in
    word_at g _ (read_word g v c.args.from.now) _ c.args.after.now
    (first_read g c.args.subject c.requires.subject from c.args.to.now one two _ _ first.is_of first.stands second.is_of second.stands)
    (word_right g _ v c.args.from.now c.args.after.now (word_still g _ _ (grows_then one two) v _ c.requires.word))

pub returns-clause-both : goal.returns-clause-both
returns-clause-both c =
    let g = c.args.alphabet.now in
    let s = c.args.derivation.now in
    let n = c.carry_all.new.derivation in
    let first = c.in_ok-first.ensures in
    let second = c.in_ok-second.ensures in
    let one = first.continues.grows in
    let two = second.continues.grows in
    let of = c.requires.subject in
    let from = c.args.from.now in
    let to = c.args.to.now in
    let e = c.in_ok-carry_all.ensures in
    let gr = grows_then (grows_then one two) e.continues.grows in
    let v = term_at s.table c.args.subject in
    let first_is = first_read g c.args.subject of from to one two _ _ first.is_of first.stands second.is_of second.stands in
    let second_is = second_read g c.args.subject of from to one two _ _ first.is_of first.stands second.is_of second.stands in
    both_with g n v from to c.args.after.now (both_still g s n gr v _ _ c.requires.both)
    (word_right g n v from c.args.after.now (word_still g s n gr v _ c.requires.word))
    (word_at g n _ _ c.args.after.now (sym second_is) e.carried.word)
    (equal_as n _ _ _ _ (sym (e.carried.first ∙ ap (λ z. read_word g z c.args.after.now) first_is))
    (sym (e.carried.second ∙ ap (λ z. read_word g z c.args.after.now) second_is)) e.carried.equal.2)

pub returns-clause-continues : goal.returns-clause-continues
returns-clause-continues c =
    continues_then (continues_anyway (continues_then c.in_ok-first.ensures.continues c.in_ok-second.ensures.continues))
    c.in_ok-carry_all.ensures.continues

pub returns-in_err-second-clause-continues : goal.returns-in_err-second-clause-continues
returns-in_err-second-clause-continues c =
    continues_anyway (continues_then c.in_ok-first.ensures.continues c.in_err-second.ensures.continues)

pub returns-in_err-carry_all-clause-continues : goal.returns-in_err-carry_all-clause-continues
returns-in_err-carry_all-clause-continues c =
    continues_then (continues_anyway (continues_then c.in_ok-first.ensures.continues c.in_ok-second.ensures.continues))
    c.in_err-carry_all.ensures.continues
