use Rattle.std.proofs.Common.{◌∷◌, [], map}
use Rattle.swreq_watch.specs.Told.{FirstGrewBy}
use Rattle.swreq_watch.proofs.fan.FanWatch.tell.Given as goal

abbrev pub invariant-loop-place : goal.invariant-loop-place
invariant-loop-place g l =
    FirstGrewBy l.place
    (map (λ b. (goal.Watch-dyn g (b.vtable, b.value)).told b.value) l.initial.self.members.items)
    (map (λ b. (goal.Watch-dyn g (b.vtable, b.value)).told b.value) l.self.members.items)
    (l.event ∷ [])
