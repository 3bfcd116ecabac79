use Rattle.swreq_derivation.proofs.DerivationLemmas.{continues_then}
use Rattle.swreq_births.proofs.Alike.{both_now}
use Rattle.swreq_births.proofs.pairs.join_at.Goals as goal

pub join-requires-clause-second : goal.join-requires-clause-second
join-requires-clause-second c =
    both_now c.args.alphabet.now c.args.derivation.now c.turn.new.derivation c.in_ok-turn.ensures.continues.grows c.args.subject _ _
    c.requires.subject c.requires.second

pub returns-clause-continues : goal.returns-clause-continues
returns-clause-continues c = continues_then c.in_ok-turn.ensures.continues c.join.ensures.continues
