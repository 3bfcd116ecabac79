use Rattle.std.proofs.Common.{inl, refl, subst, [], Bool, List}
use Rattle.std.proofs.lemmas.Result.{err_from_is_err_and}
use Rattle.swreq_complete.proofs.swreq_watch.Told.{grew_none}
use Rattle.swreq_rounds.specs.Rounds.{IsClosed}
use Rattle.swreq_valid.specs.Flags.{chosen}
use Rattle.swreq_valid.specs.Plans.{plan_of}
use Rattle.swreq_valid.specs.Rounds.{AreJoined, first_rules}
use Rattle.swreq_valid.proofs.Taken.{due_closed, some_by, some_first}
use Rattle.swreq_valid.proofs.rounds.turn.Goals as goal

pub returns-in_err-joined : goal.returns-in_err-joined
returns-in_err-joined g c =
    let p = err_from_is_err_and c.from_residual.result c.from_residual.ensures.1 in
    rw (p.1, p.2) ([], inl refl, grew_none (g.W.Watch.told c.args.watch.now))

pub completed-requires-in-None-clause-due : goal.completed-requires-in-None-clause-due
completed-requires-in-None-clause-due g c =
    let limits = c.args.start.now.limits in
    let plan = plan_of c.args.text.now.world.now c.args.text.now.table.now (first_rules c.args.below) c.args.start.now in
    due_closed limits plan c.args.state
    (subst (λ (u : List Bool). IsClosed limits plan (chosen plan.all u)) c.deref.ensures.value (rw c.in-None.is at c.in_ok-joined.ensures))

pub returns-in_err-turn-in-Some : goal.returns-in_err-turn-in-Some
returns-in_err-turn-in-Some g c =
    let p = err_from_is_err_and c.from_residual-in_err-turn-in-Some.result c.from_residual-in_err-turn-in-Some.ensures.1 in
    rw (p.1, p.2) ([], inl refl, grew_none (g.W.Watch.told c.args.watch.now))

pub returns-in_ok-turn-in-Some : goal.returns-in_ok-turn-in-Some
returns-in_ok-turn-in-Some g c =
    let limits = c.args.start.now.limits in
    let plan = plan_of c.args.text.now.world.now c.args.text.now.table.now (first_rules c.args.below) c.args.start.now in
    let first = some_first c.args.state (some_by c.args.state.first c.is_none.result c.is_none.ensures c.if-is_none.false) in (
      [],
      c.in_ok-turn-in-Some.ensures limits plan first.0 first.1 c.requires.underway.1.flags
          (subst (λ (u : List Bool). AreJoined limits plan u c.in-Some.found.rules c.in-Some.found.more.items) c.deref.ensures.value
          (rw c.in-Some.is at c.in_ok-joined.ensures)),
      grew_none (g.W.Watch.told c.args.watch.now),
    )
