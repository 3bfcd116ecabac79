use Rattle.std.proofs.Common.{subst, Bool, List}
use Rattle.swreq_rounds.specs.Rounds.{IsClosed}
use Rattle.swreq_valid.specs.Flags.{chosen}
use Rattle.swreq_valid.specs.Plans.{plan_of}
use Rattle.swreq_valid.specs.Rounds.{AreJoined, first_rules}
use Rattle.swreq_valid.proofs.Turned.{stops_here}
use Rattle.swreq_valid.proofs.turns.after_first_limit.Goals as goal

pub returns-in-None : goal.returns-in-None
returns-in-None c =
    let limits = c.args.start.now.limits in
    let plan = plan_of c.args.text.now.world.now c.args.text.now.table.now (first_rules c.args.below) c.args.start.now in
    stops_here limits plan c.args.state c.requires.flags c.requires.first
    (record { which = c.args.passed.which; trace = c.args.passed.trace }) c.requires.stops
    (subst (λ (u : List Bool). IsClosed limits plan (chosen plan.all u)) c.deref.ensures.value (rw c.in-None.is at c.in_ok-joined.ensures))

pub returns : goal.returns
returns c =
    let limits = c.args.start.now.limits in
    let plan = plan_of c.args.text.now.world.now c.args.text.now.table.now (first_rules c.args.below) c.args.start.now in
    c.in_ok-turn-in-Some.ensures limits plan c.requires.first c.requires.flags c.requires.stops
    (subst (λ (u : List Bool). AreJoined limits plan u c.in-Some.found.rules c.in-Some.found.more.items) c.deref.ensures.value
    (rw c.in-Some.is at c.in_ok-joined.ensures))
