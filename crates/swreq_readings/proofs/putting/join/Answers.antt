use Rattle.std.proofs.{Common.{ap, sym, ◌∙◌}, lemmas.Result.{on_ok_weaker}}
use Rattle.swreq_derive.specs.swreq_param.Tables.{term_at}
use Rattle.swreq_readings.specs.Readable.{read_word}
use Rattle.swreq_readings.proofs.ReadingLemmas.{alike_ids, both_still, equal_as, equal_ids_still, second_read, term_still}
use Rattle.swreq_derivation.proofs.DerivationLemmas.{continues_then, grows_then}
use Rattle.swreq_readings.proofs.putting.join.Goals as goal

pub add_trans-requires-clause-first : goal.add_trans-requires-clause-first
add_trans-requires-clause-first c =
    let first = c.in_ok-first.ensures in
    let middle = c.in_ok-middle.ensures in
    equal_ids_still _ _ c.in_ok-last.ensures.continues.grows c.in_ok-first.first c.in_ok-middle.middle
    (alike_ids c.args.alphabet.now c.args.subject c.requires.subject c.args.from.now c.args.via.now first.continues.grows
    middle.continues.grows _ _ first.is_of first.stands middle.is_of middle.stands c.requires.first.equal)

pub add_trans-requires-clause-second : goal.add_trans-requires-clause-second
add_trans-requires-clause-second c =
    let g = c.args.alphabet.now in
    let first = c.in_ok-first.ensures in
    let middle = c.in_ok-middle.ensures in
    let last = c.in_ok-last.ensures in
    let of = c.requires.subject in
    let via = second_read g c.args.subject of c.args.from.now c.args.via.now first.continues.grows middle.continues.grows _ _ first.is_of
    first.stands middle.is_of middle.stands in
    alike_ids g c.args.subject of c.args.via.now c.args.to.now (grows_then first.continues.grows middle.continues.grows)
    last.continues.grows _ _ middle.is_of via last.is_of last.stands c.requires.second.equal

pub returns-clause-both : goal.returns-clause-both
returns-clause-both c =
    let g = c.args.alphabet.now in
    let s = c.args.derivation.now in
    let n = c.add_trans.new.derivation in
    let first = c.in_ok-first.ensures in
    let middle = c.in_ok-middle.ensures in
    let last = c.in_ok-last.ensures in
    let g12 = grows_then first.continues.grows middle.continues.grows in
    let g23 = grows_then middle.continues.grows last.continues.grows in
    let gr = grows_then (grows_then g12 last.continues.grows) c.add_trans.ensures.continues.grows in
    let t = term_at s.table c.args.subject in
    let to = last.stands ∙ ap (λ z. read_word g z c.args.to.now) (term_still _ _ g12 c.args.subject c.requires.subject) in
    on_ok_weaker c.add_trans.result (λ equal. record {
      left = (both_still g s n gr t c.args.from.now c.args.via.now c.requires.first).left;
      right = (both_still g s n gr t c.args.via.now c.args.to.now c.requires.second).right;
      equal = equal_as n _ _ _ _ (sym (term_still _ _ g23 c.in_ok-first.first first.is_of ∙ first.stands)) (sym to) equal;
    }) c.add_trans.ensures.equal

pub returns-clause-continues : goal.returns-clause-continues
returns-clause-continues c =
    continues_then (continues_then (continues_then c.in_ok-first.ensures.continues c.in_ok-middle.ensures.continues)
    c.in_ok-last.ensures.continues) c.add_trans.ensures.continues

pub returns-in_err-middle-clause-continues : goal.returns-in_err-middle-clause-continues
returns-in_err-middle-clause-continues c = continues_then c.in_ok-first.ensures.continues c.in_err-middle.ensures.continues

pub returns-in_err-last-clause-continues : goal.returns-in_err-last-clause-continues
returns-in_err-last-clause-continues c =
    continues_then (continues_then c.in_ok-first.ensures.continues c.in_ok-middle.ensures.continues) c.in_err-last.ensures.continues
