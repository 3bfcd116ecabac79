use Rattle.std.proofs.Common.{arith}
use Rattle.std.proofs.lemmas.List.{length-map}
use Rattle.swreq_watch.proofs.Telling.{first_none, first_set, first_kept, first_all, stopped}
use Rattle.swreq_watch.proofs.fan.FanWatch.tell.Goals as goal

pub loop-place-init : goal.loop-place-init
loop-place-init g c = first_none _ _

pub returns-in_err-tell_member-clause-up_to_one : goal.returns-in_err-tell_member-clause-up_to_one
returns-in_err-tell_member-clause-up_to_one g c =
    let kept = first_kept _ _ _ _ _ _ _ c.loop-place.invariant c.index_mut.ensures.value c.in_err-tell_member.ensures.err in
    stopped _ _ _ _ _ _ (omega arith) kept

pub loop-place-preserved : goal.loop-place-preserved
loop-place-preserved g c =
    first_set _ _ _ _ _ _ _ c.loop-place.invariant (omega arith) c.index_mut.ensures.value c.in_ok-tell_member.ensures.ok

pub returns-clause-each : goal.returns-clause-each
returns-clause-each g c = first_all _ _ _ _ c.loop-place.invariant (rw (length-map c.args.self.now.members.items _) (omega arith))
