use Rattle.std.proofs.lemmas.Result.{on_ok_weaker}
use Rattle.swreq_readings.proofs.ReadingLemmas.{both_still, is_still}
use Rattle.swreq_births.proofs.Alike.{both_after, both_before, both_now, oriented_both}
use Rattle.swreq_derivation.proofs.DerivationLemmas.{continues_then, grows_then}
use Rattle.swreq_births.proofs.pairs.close.Goals as goal

pub join-requires-clause-first : goal.join-requires-clause-first
join-requires-clause-first c =
    let joined = c.in_ok-join_at.ensures in
    both_after c.args.derivation.now _ joined.continues.grows c.args.subject c.requires.ends.subject joined.both

pub join-requires-clause-second : goal.join-requires-clause-second
join-requires-clause-second c =
    both_now c.args.alphabet.now c.args.derivation.now c.join_at.new.derivation c.in_ok-join_at.ensures.continues.grows c.args.subject _ _
    c.requires.ends.subject c.requires.ends.last

pub turn-requires-clause-both : goal.turn-requires-clause-both
turn-requires-clause-both c =
    let is = is_still c.args.derivation.now _ c.in_ok-join_at.ensures.continues.grows c.args.subject c.requires.ends.subject in
    both_after c.join_at.new.derivation _ c.in_ok-join.ensures.continues.grows c.args.subject is c.in_ok-join.ensures.both

pub returns-clause-both : goal.returns-clause-both
returns-clause-both c =
    let g = c.args.alphabet.now in
    let s = c.args.derivation.now in
    let s2 = c.join.new.derivation in
    let n = c.turn.new.derivation in
    let t = c.args.subject in
    let is = c.requires.ends.subject in
    let first = c.in_ok-join_at.ensures.continues.grows in
    let both = c.in_ok-join.ensures in
    on_ok_weaker c.turn.result (λ turned. oriented_both g n _ _ _ c.args.rule.now c.requires.oriented
    (both_before s c.join_at.new.derivation first t is (both_still g s2 n c.turn.ensures.continues.grows _ _ _ both.both))
    (both_before s s2 (grows_then first both.continues.grows) t is turned)) c.turn.ensures.both

pub returns-clause-continues : goal.returns-clause-continues
returns-clause-continues c =
    continues_then (continues_then c.in_ok-join_at.ensures.continues c.in_ok-join.ensures.continues) c.turn.ensures.continues

pub returns-in_err-join-clause-continues : goal.returns-in_err-join-clause-continues
returns-in_err-join-clause-continues c = continues_then c.in_ok-join_at.ensures.continues c.in_err-join.ensures.continues
