use Rattle.std.proofs.Common.{ap, arith, subst, length, Bool, List, Ok, Err}
use Rattle.std.proofs.lemmas.Result.{err_from_is_err_and}
use Rattle.swreq_complete.specs.declared.limit.Failed.TheVariants.{Limit, Memory}
use Rattle.swreq_complete.specs.Answers.{IsAnswer}
use Rattle.swreq_complete.specs.Events.{TellsEvents, events}
use Rattle.swreq_rounds.specs.Plan.{given}
use Rattle.swreq_rounds.proofs.Growing.{round_shows}
use Rattle.swreq_valid.specs.Flags.{chosen}
use Rattle.swreq_valid.specs.Plans.{plan_of}
use Rattle.swreq_valid.specs.Rounds.{first_rules}
use Rattle.swreq_valid.proofs.Taken.{ended_part, limit_taken, memory_taken}
use Rattle.swreq_valid.proofs.Turned.{flags_long}
use Rattle.swreq_valid.proofs.rounds.completed.Goals as goal

pub complete-requires-clause-flags : goal.complete-requires-clause-flags
complete-requires-clause-flags g c =
    let a = flags_long c.args.text.now.table.now c.args.start.now.all.items c.args.state.used.items c.requires.underway.1.flags in
    let e = ap length c.deref.ensures.value in
    let o = c.args.start.now.all.ok in
    omega (arith, a, e, o)

pub after_end-requires-clause-shown : goal.after_end-requires-clause-shown
after_end-requires-clause-shown g c x k =
    let limits = c.args.start.now.limits in
    let base = first_rules c.args.below in
    let plan = plan_of c.args.text.now.world.now c.args.text.now.table.now base c.args.start.now in
    round_shows limits plan c.requires.underway.1.round c.in-Ok.rules
    (subst (λ (u : List Bool). IsAnswer limits base (given plan (chosen plan.all u)) (Ok c.in-Ok.rules)) c.deref.ensures.value
    c.in-Ok.ensures.answer) x k

pub returns-in_err-turn-in-Ok : goal.returns-in_err-turn-in-Ok
returns-in_err-turn-in-Ok g c =
    let limits = c.args.start.now.limits in
    let base = first_rules c.args.below in
    let plan = plan_of c.args.text.now.world.now c.args.text.now.table.now base c.args.start.now in
    let p = err_from_is_err_and c.from_residual.result c.from_residual.ensures.1 in
    rw (p.1, p.2) (
      events (length base) c.in-Ok.rules,
      ended_part limits plan c.args.state c.requires.due (g.W.Watch.told c.args.watch.now)
          (g.W.Watch.told c.complete.new.watch) c.in-Ok.rules
          (subst (λ (u : List Bool). IsAnswer limits base (given plan (chosen plan.all u)) (Ok c.in-Ok.rules)) c.deref.ensures.value
          c.in-Ok.ensures.answer),
      c.in-Ok.ensures.told,
    )

pub returns-in-Err-Limit : goal.returns-in-Err-Limit
returns-in-Err-Limit g c =
    let limits = c.args.start.now.limits in
    let base = first_rules c.args.below in
    let plan = plan_of c.args.text.now.world.now c.args.text.now.table.now base c.args.start.now in
    let which = c.in-Err-Limit.which in
    let trace = c.in-Err-Limit.trace in
    limit_taken limits plan c.args.state c.requires.due (g.W.Watch.told c.args.watch.now) (g.W.Watch.told c.complete.new.watch)
    (record { which = which; trace = trace })
    (subst (λ (u : List Bool). IsAnswer limits base (given plan (chosen plan.all u)) (Err (Limit which trace))) c.deref.ensures.value
    (rw c.in-Err-Limit.field-0-is at c.in-Err-Limit.ensures.answer))
    (rw c.in-Err-Limit.field-0-is at c.in-Err-Limit.ensures.told) c.after_limit.result c.after_limit.ensures

pub returns : goal.returns
returns g c =
    let limits = c.args.start.now.limits in
    let base = first_rules c.args.below in
    let plan = plan_of c.args.text.now.world.now c.args.text.now.table.now base c.args.start.now in
    let told = g.W.Watch.told in
    memory_taken limits plan c.args.state c.requires.due (told c.args.watch.now) (told c.complete.new.watch)
    (subst (λ (u : List Bool).
    TellsEvents limits base (given plan (chosen plan.all u)) (told c.args.watch.now) (told c.complete.new.watch) (Err Memory))
    c.deref.ensures.value (rw c.in-Err-Memory.field-0-is at c.in-Err-Memory.ensures.told))
