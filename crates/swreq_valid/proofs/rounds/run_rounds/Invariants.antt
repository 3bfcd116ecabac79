use Rattle.swreq_valid.specs.Flags.{unset}
use Rattle.swreq_valid.specs.Plans.{plan_of}
use Rattle.swreq_valid.specs.Rounds.{first_rules}
use Rattle.swreq_valid.proofs.Running.{IsBefore}
use Rattle.swreq_valid.proofs.rounds.run_rounds.Given as goal

abbrev pub invariant-each : goal.invariant-each
invariant-each g l =
    IsBefore l.start.limits (plan_of l.text.world.now l.text.table.now (first_rules l.below) l.start) (g.W.Watch.told l.initial.watch)
    l.state (g.W.Watch.told l.watch)

abbrev pub decreases-each : goal.decreases-each
decreases-each g l = unset l.state.used.items
