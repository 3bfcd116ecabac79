use Rattle.std.proofs.Common.{◌≡◌}
use Rattle.swreq_machine.specs.swreq_valid.Rounds.{last_rules}
use Rattle.swreq_list_rules.specs.Settings.{plan_in, said_in}
use Rattle.swreq_list_rules.proofs.ByEquation.{of_machine}
use Rattle.swreq_minimal.proofs.Telling.{one_failure, one_part, out_of_memory, stopped}
use Rattle.swreq_minimal.proofs.derivable.is_derivable_by_machine.Goals as goal

pub returns-in_err-machine-clause-tells : goal.returns-in_err-machine-clause-tells
returns-in_err-machine-clause-tells g c =
    let s = c.args.setting.now in
    let list = said_in s c.args.list.now in
    let before = g.W.Watch.told c.args.watch.now in
    let now = g.W.Watch.told c.core.new.watch in
    let failed = c.in_err-machine.field-0.0 in
    stopped s (λ l. l ≡ list) c.from_residual.result failed before now c.from_residual.ensures.1
    (one_failure s.limits (plan_in s) list before now failed c.in_err-machine.ensures.answer)

pub returns-in_err-is_derivable_by-clause-tells : goal.returns-in_err-is_derivable_by-clause-tells
returns-in_err-is_derivable_by-clause-tells g c =
    let s = c.args.setting.now in
    let list = said_in s c.args.list.now in
    let before = g.W.Watch.told c.args.watch.now in
    let now = g.W.Watch.told c.core.new.watch in
    out_of_memory s (λ l. l ≡ list) c.from_residual-in_err-is_derivable_by.result before now
    c.from_residual-in_err-is_derivable_by.ensures.1
    (one_part s.limits (plan_in s) list before now (last_rules c.in_ok-machine.machine.rounds) c.in_ok-machine.ensures.answer)

pub returns-clause-answer : goal.returns-clause-answer
returns-clause-answer g c =
    let s = c.args.setting.now in
    let list = said_in s c.args.list.now in
    c.in_ok-is_derivable_by.ensures list
    (of_machine s list c.in_ok-machine.machine c.rules.result.now c.in_ok-machine.ensures.machine c.in_ok-machine.ensures.params
    c.rules.ensures)

pub returns-clause-tells : goal.returns-clause-tells
returns-clause-tells g c =
    let s = c.args.setting.now in
    one_part s.limits (plan_in s) (said_in s c.args.list.now) (g.W.Watch.told c.args.watch.now) (g.W.Watch.told c.core.new.watch)
    (last_rules c.in_ok-machine.machine.rounds) c.in_ok-machine.ensures.answer
