use Rattle.std.proofs.Common.{◌≤◌, List, length}
use Rattle.swreq_valid.specs.swreq_watch.declared.events.Event.{Event}
use Rattle.swreq_valid.specs.swreq_watch.Told.{GrewBy}
use Rattle.swreq_reqsig.specs.Places.{all_places}
use Rattle.swreq_reqsig.specs.Settings.{text_in}
use Rattle.swreq_reqsig.specs.Told.{WasReduced}
use Rattle.swreq_reqsig.proofs.going.drop_derivable.Given as goal

abbrev pub invariant-loop-left : goal.invariant-loop-left
invariant-loop-left g l = record {
  within : l.left ≤ length (all_places l.setting.text.world.now);
  gone : (told : List Event) × WasReduced l.setting.limits (text_in l.setting) l.left l.flags.items told
      × GrewBy (g.W.Watch.told l.initial.watch) (g.W.Watch.told l.watch) told;
}

abbrev pub decreases-loop-left : goal.decreases-loop-left
decreases-loop-left g l = l.left
