use Rattle.std.proofs.Common.{subst}
use Rattle.swreq_machine.specs.swreq_valid.Rounds.{last_rules}
use Rattle.swreq_confpath.specs.Parting.{PartsForGood}
use Rattle.swreq_confpath.specs.Searches.{AimView, HasParted}
use Rattle.swreq_confpath.specs.Spots.{word_at}
use Rattle.swreq_confpath.proofs.trying.has_parted.Goals as goal

pub returns : goal.returns
returns c holds =
    let rules = last_rules c.aim.inside.sought.machine.now.rounds in
    subst (λ (a : AimView). HasParted a.sought a.target c.args.place.now) c.aim.view_is
    (subst (λ z. PartsForGood rules z (word_at c.args.place.now)) c.word.ensures
    (subst (λ z. PartsForGood rules c.word.result.now z) c.word-2.ensures (c.parts_for_good.ensures rules c.aim.invariant.known.others
    holds)))
