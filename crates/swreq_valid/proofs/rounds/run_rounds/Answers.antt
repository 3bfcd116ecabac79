use Rattle.std.proofs.Common.{◌≡◌, arith, refl, subst, false, length, replicate, Ok, Err}
use Rattle.std.proofs.lemmas.Result.{err_from_is_err_and}
use Rattle.swreq_valid.specs.Plans.{plan_of}
use Rattle.swreq_valid.specs.Rounds.{first_rules, last_rules}
use Rattle.swreq_valid.proofs.Planning.{items_length}
use Rattle.swreq_valid.proofs.Running.{all_rounds, failed_taken, fewer_left, is_first, is_next, last_taken, nothing_told, only}
use Rattle.swreq_valid.proofs.rounds.run_rounds.Goals as goal

pub returns-in_err-used-clause-answer : goal.returns-in_err-used-clause-answer
returns-in_err-used-clause-answer g c =
    let text = c.args.text.now in
    let p = err_from_is_err_and c.from_residual.result c.from_residual.ensures.1 in
    rw (p.1, p.2)
    (nothing_told c.args.start.now.limits (plan_of text.world.now text.table.now (first_rules c.args.below) c.args.start.now)
    (g.W.Watch.told c.args.watch.now))

pub each-init : goal.each-init
each-init g c =
    let text = c.args.text.now in
    let plan = plan_of text.world.now text.table.now (first_rules c.args.below) c.args.start.now in
    let all = c.args.start.now.all in
    let count : c.len.result ≡ length plan.all =
    let b = c.len.ensures in let o = all.ok in let q = items_length text.table.now all.items in omega (arith, b, o, q) in
    is_first c.args.start.now.limits plan (g.W.Watch.told c.args.watch.now) _
    (subst (λ n. c.in_ok-used.used.items ≡ replicate n false) count c.in_ok-used.ensures) refl c.new.ensures.items

pub turn-requires-clause-underway : goal.turn-requires-clause-underway
turn-requires-clause-underway g c = (c.each.invariant.told, c.each.invariant.underway)

pub returns-in_err-next-clause-answer : goal.returns-in_err-next-clause-answer
returns-in_err-next-clause-answer g c =
    let text = c.args.text.now in
    let told = g.W.Watch.told in
    let plan = plan_of text.world.now text.table.now (first_rules c.args.below) c.args.start.now in
    let p = err_from_is_err_and c.from_residual-in_err-next.result c.from_residual-in_err-next.ensures.1 in
    rw (p.1, p.2)
    (failed_taken c.args.start.now.limits plan (told c.args.watch.now) c.each.state (told c.each.watch)
    (told c.turn.new.watch) c.each.invariant
    c.in_err-next.field-0.0 c.in_err-next.ensures)

pub returns-in_err-next-clause-only : goal.returns-in_err-next-clause-only
returns-in_err-next-clause-only g c =
    let text = c.args.text.now in
    let told = g.W.Watch.told in
    let plan = plan_of text.world.now text.table.now (first_rules c.args.below) c.args.start.now in
    let p = err_from_is_err_and c.from_residual-in_err-next.result c.from_residual-in_err-next.ensures.1 in
    rw (p.1, p.2)
    (only c.args.start.now.limits plan (told c.args.watch.now) (told c.turn.new.watch) (Err c.in_err-next.field-0.0)
    (failed_taken c.args.start.now.limits plan (told c.args.watch.now) c.each.state (told c.each.watch)
    (told c.turn.new.watch) c.each.invariant
    c.in_err-next.field-0.0 c.in_err-next.ensures))

pub each-smaller : goal.each-smaller
each-smaller g c =
    let text = c.args.text.now in
    let told = g.W.Watch.told in
    let plan = plan_of text.world.now text.table.now (first_rules c.args.below) c.args.start.now in
    fewer_left c.args.start.now.limits plan (told c.args.watch.now) c.each.state (told c.each.watch)
    (told c.turn.new.watch) c.each.invariant c.in-Goes.next
    (rw c.in-Goes.is at c.in_ok-next.ensures)

pub each-preserved : goal.each-preserved
each-preserved g c =
    let text = c.args.text.now in
    let told = g.W.Watch.told in
    let plan = plan_of text.world.now text.table.now (first_rules c.args.below) c.args.start.now in
    is_next c.args.start.now.limits plan (told c.args.watch.now) c.each.state (told c.each.watch)
    (told c.turn.new.watch) c.each.invariant c.in-Goes.next
    (rw c.in-Goes.is at c.in_ok-next.ensures)

pub returns-in-Lasts-clause-answer : goal.returns-in-Lasts-clause-answer
returns-in-Lasts-clause-answer g c =
    let text = c.args.text.now in
    let told = g.W.Watch.told in
    let plan = plan_of text.world.now text.table.now (first_rules c.args.below) c.args.start.now in
    last_taken c.args.start.now.limits plan (told c.args.watch.now) c.each.state (told c.each.watch)
    (told c.turn.new.watch) c.each.invariant
    c.in-Lasts.rounds (rw c.in-Lasts.is at c.in_ok-next.ensures)

pub returns-in-Lasts-clause-only : goal.returns-in-Lasts-clause-only
returns-in-Lasts-clause-only g c =
    let text = c.args.text.now in
    let told = g.W.Watch.told in
    let plan = plan_of text.world.now text.table.now (first_rules c.args.below) c.args.start.now in
    only c.args.start.now.limits plan (told c.args.watch.now) (told c.turn.new.watch) (Ok (last_rules c.in-Lasts.rounds))
    (last_taken c.args.start.now.limits plan (told c.args.watch.now) c.each.state (told c.each.watch)
    (told c.turn.new.watch) c.each.invariant
    c.in-Lasts.rounds (rw c.in-Lasts.is at c.in_ok-next.ensures))

pub returns-in-Lasts-clause-rounds : goal.returns-in-Lasts-clause-rounds
returns-in-Lasts-clause-rounds g c =
    let text = c.args.text.now in
    let told = g.W.Watch.told in
    let plan = plan_of text.world.now text.table.now (first_rules c.args.below) c.args.start.now in
    all_rounds c.args.start.now.limits plan (told c.args.watch.now) c.each.state (told c.each.watch)
    (told c.turn.new.watch) c.each.invariant
    c.in-Lasts.rounds (rw c.in-Lasts.is at c.in_ok-next.ensures)
