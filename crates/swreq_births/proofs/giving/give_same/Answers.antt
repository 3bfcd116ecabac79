use Rattle.std.proofs.{Common.{inr, sym, ◌∙◌}, lemmas.Result.{on_ok_weaker}}
use Rattle.swreq_readings.proofs.ReadingLemmas.{equal_as, equal_ids_now, equal_ids_still, is_still, term_still, word_still}
use Rattle.swreq_derivation.proofs.DerivationLemmas.{continues_anyway, continues_then, grows_then}
use Rattle.swreq_births.proofs.Readings.{on_side}
use Rattle.swreq_births.proofs.giving.give_same.Goals as goal

pub add_symm-requires : goal.add_symm-requires
add_symm-requires c =
    let first = c.in_ok-first.ensures in
    let left = on_side c.args.alphabet.now _ _ c.read_word.new.derivation c.in_ok-add_requirement.ensures.continues.grows
    first.continues.grows c.args.origin.for_self _ _ _ c.requires.origin.for_self c.requires.left first.is_of first.stands in
    equal_ids_still _ c.read_word-2.new.derivation c.in_ok-last.ensures.continues.grows _ _ left.equal

pub add_trans-requires-clause-first : goal.add_trans-requires-clause-first
add_trans-requires-clause-first c =
    let s3 = c.read_word-2.new.derivation in
    let g3 = c.in_ok-last.ensures.continues.grows in
    let grows = grows_then c.in_ok-add_requirement.ensures.continues.grows (grows_then c.in_ok-first.ensures.continues.grows g3) in
    equal_ids_now s3 _ c.in_ok-add_symm.ensures.continues.grows _ _ (is_still _ s3 g3 _ c.in_ok-first.ensures.is_of)
    (is_still _ s3 grows _ c.requires.left.id) c.in_ok-add_symm.ensures.equal

pub add_trans-requires-clause-second : goal.add_trans-requires-clause-second
add_trans-requires-clause-second c =
    let put = c.in_ok-add_requirement.ensures in
    let after = grows_then (grows_then c.in_ok-first.ensures.continues.grows c.in_ok-last.ensures.continues.grows)
    c.in_ok-add_symm.ensures.continues.grows in
    equal_ids_still _ c.add_symm.new.derivation after _ _ (equal_ids_now _ c.add_requirement.new.derivation put.continues.grows _ _
    c.requires.left.id c.requires.right.id (inr put.says))

pub add_trans-requires-2-clause-first : goal.add_trans-requires-2-clause-first
add_trans-requires-2-clause-first c =
    let s4 = c.add_symm.new.derivation in
    let on = grows_then c.in_ok-last.ensures.continues.grows c.in_ok-add_symm.ensures.continues.grows in
    let grows = grows_then (grows_then c.in_ok-add_requirement.ensures.continues.grows c.in_ok-first.ensures.continues.grows) on in
    equal_ids_now s4 _ c.in_ok-add_trans.ensures.continues.grows _ _ (is_still _ s4 on _ c.in_ok-first.ensures.is_of)
    (is_still _ s4 grows _ c.requires.right.id) c.in_ok-add_trans.ensures.equal

pub add_trans-requires-2-clause-second : goal.add_trans-requires-2-clause-second
add_trans-requires-2-clause-second c =
    let last = c.in_ok-last.ensures in
    let g2 = grows_then c.in_ok-add_requirement.ensures.continues.grows c.in_ok-first.ensures.continues.grows in
    let right = on_side c.args.alphabet.now _ _ c.read_word-2.new.derivation g2 last.continues.grows c.args.origin.for_self _ _ _
    c.requires.origin.for_self c.requires.right last.is_of last.stands in
    equal_ids_still _ c.add_trans.new.derivation (grows_then c.in_ok-add_symm.ensures.continues.grows
    c.in_ok-add_trans.ensures.continues.grows) _ _ right.equal

pub returns-clause-both : goal.returns-clause-both
returns-clause-both c =
    let g = c.args.alphabet.now in
    let s5 = c.add_trans.new.derivation in
    let s6 = c.add_trans-2.new.derivation in
    let t = c.args.origin.for_self in
    let is = c.requires.origin.for_self in
    let first = c.in_ok-first.ensures in
    let last = c.in_ok-last.ensures in
    let g1 = c.in_ok-add_requirement.ensures.continues.grows in
    let g2 = grows_then g1 first.continues.grows in
    let after = grows_then c.in_ok-add_symm.ensures.continues.grows c.in_ok-add_trans.ensures.continues.grows in
    let grows = grows_then (grows_then (grows_then g2 last.continues.grows) after) c.add_trans-2.ensures.continues.grows in
    let left = on_side g _ _ c.read_word.new.derivation g1 first.continues.grows t _ _ _ is c.requires.left first.is_of first.stands in
    let right = on_side g _ _ c.read_word-2.new.derivation g2 last.continues.grows t _ _ _ is c.requires.right last.is_of last.stands in
    on_ok_weaker c.add_trans-2.result (λ equal. record {
      left = word_still g c.args.derivation.now s6 grows _ _ c.requires.left.word;
      right = word_still g c.args.derivation.now s6 grows _ _ c.requires.right.word;
      equal = equal_as s6 _ _ _ _
          (sym (term_still c.read_word.new.derivation s5 (grows_then last.continues.grows after) _ first.is_of ∙ left.stands))
          (sym (term_still c.read_word-2.new.derivation s5 after _ last.is_of ∙ right.stands)) equal;
    }) c.add_trans-2.ensures.equal

pub returns-clause-continues : goal.returns-clause-continues
returns-clause-continues c =
    continues_then c.in_ok-add_requirement.ensures.continues (continues_anyway (continues_then (continues_then (continues_then
    (continues_then c.in_ok-first.ensures.continues c.in_ok-last.ensures.continues) c.in_ok-add_symm.ensures.continues)
    c.in_ok-add_trans.ensures.continues) c.add_trans-2.ensures.continues))

pub returns-in_err-first-clause-continues : goal.returns-in_err-first-clause-continues
returns-in_err-first-clause-continues c =
    continues_then c.in_ok-add_requirement.ensures.continues (continues_anyway c.in_err-first.ensures.continues)

pub returns-in_err-last-clause-continues : goal.returns-in_err-last-clause-continues
returns-in_err-last-clause-continues c =
    continues_then c.in_ok-add_requirement.ensures.continues (continues_anyway (continues_then c.in_ok-first.ensures.continues
    c.in_err-last.ensures.continues))

pub returns-in_err-add_symm-clause-continues : goal.returns-in_err-add_symm-clause-continues
returns-in_err-add_symm-clause-continues c =
    continues_then c.in_ok-add_requirement.ensures.continues (continues_anyway (continues_then (continues_then
    c.in_ok-first.ensures.continues c.in_ok-last.ensures.continues) c.in_err-add_symm.ensures.continues))

pub returns-in_err-add_trans-clause-continues : goal.returns-in_err-add_trans-clause-continues
returns-in_err-add_trans-clause-continues c =
    continues_then c.in_ok-add_requirement.ensures.continues (continues_anyway (continues_then (continues_then (continues_then
    c.in_ok-first.ensures.continues c.in_ok-last.ensures.continues) c.in_ok-add_symm.ensures.continues)
    c.in_err-add_trans.ensures.continues))
