use Rattle.std.proofs.{Common.{sym}, lemmas.Result.{on_ok_weaker}}
use Rattle.swreq_derive.specs.swreq_param.Tables.{term_at}
use Rattle.swreq_readings.proofs.ReadingLemmas.{alike_ids, both_still, equal_as, first_read, second_read}
use Rattle.swreq_derivation.proofs.DerivationLemmas.{continues_then, grows_then}
use Rattle.swreq_readings.proofs.putting.turn.Goals as goal

pub add_symm-requires : goal.add_symm-requires
add_symm-requires c =
    let first = c.in_ok-first.ensures in
    let second = c.in_ok-second.ensures in
    alike_ids c.args.alphabet.now c.args.subject c.requires.subject c.args.from.now c.args.to.now first.continues.grows
    second.continues.grows _ _ first.is_of first.stands second.is_of second.stands c.requires.both.equal

pub returns-clause-both : goal.returns-clause-both
returns-clause-both c =
    let g = c.args.alphabet.now in
    let s = c.args.derivation.now in
    let n = c.add_symm.new.derivation in
    let first = c.in_ok-first.ensures in
    let second = c.in_ok-second.ensures in
    let one = first.continues.grows in
    let two = second.continues.grows in
    let of = c.requires.subject in
    let from = c.args.from.now in
    let to = c.args.to.now in
    let w = both_still g s n (grows_then (grows_then one two) c.add_symm.ensures.continues.grows) (term_at s.table c.args.subject)
    c.args.from.now c.args.to.now c.requires.both in
    on_ok_weaker c.add_symm.result (λ equal. record {
      left = w.right;
      right = w.left;
      equal = equal_as n _ _ _ _
          (sym (second_read g c.args.subject of from to one two _ _ first.is_of first.stands second.is_of second.stands))
          (sym (first_read g c.args.subject of from to one two _ _ first.is_of first.stands second.is_of second.stands)) equal;
    }) c.add_symm.ensures.equal

pub returns-clause-continues : goal.returns-clause-continues
returns-clause-continues c =
    continues_then (continues_then c.in_ok-first.ensures.continues c.in_ok-second.ensures.continues) c.add_symm.ensures.continues

pub returns-in_err-second-clause-continues : goal.returns-in_err-second-clause-continues
returns-in_err-second-clause-continues c = continues_then c.in_ok-first.ensures.continues c.in_err-second.ensures.continues
