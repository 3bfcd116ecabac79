use Rattle.std.proofs.Common.{subst, sym, Ok, Err}
use Rattle.std.proofs.lemmas.Result.{err_from_is_err_and}
use Rattle.swreq_valid.specs.Answers.{Answers, IsOnlyOutcome}
use Rattle.swreq_machine.specs.Machines.{IsMachineOf, MachineView, list_of, plan_over}
use Rattle.swreq_valid.specs.Plans.{listed}
use Rattle.swreq_valid.specs.Rounds.{AreRounds, last_rules}
use Rattle.swreq_machine.proofs.Listing.{list_in_text, list_machine, list_plan_over, list_wanted}
use Rattle.swreq_valid.proofs.Running.{nothing_told}
use Rattle.swreq_valid.specs.swreq_symbols.Texts.{world_of}
use Rattle.swreq_valid.proofs.swreq_symbols.OfTexts.{text_over}
use Rattle.swreq_machine.proofs.machine.core.Goals as goal

pub returns-in_err-all-clause-answer : goal.returns-in_err-all-clause-answer
returns-in_err-all-clause-answer g c =
    let p = err_from_is_err_and c.from_residual.result c.from_residual.ensures.1 in
    rw (p.1, p.2)
    (nothing_told c.args.limits (plan_over c.args.checked.now c.args.params c.args.list.now) (g.W.Watch.told c.args.watch.now))

pub run_rounds-requires : goal.run_rounds-requires
run_rounds-requires g c =
    let text = c.checked.inside.text in
    list_wanted text.world.now text.table.now c.rules-below.result.now
    (record { basic = c.new-basic.result; all = c.in_ok-all.all; limits = c.args.limits }) c.args.params c.args.list.now
    c.new-basic.ensures.items c.in_ok-all.ensures (rw (← c.checked.view_is) at c.requires)

pub returns-clause-answer : goal.returns-clause-answer
returns-clause-answer g c =
    let text = c.checked.inside.text in
    let base = last_rules c.checked.inside.protocols.now.rounds in
    rw (← c.checked.view_is)
    (subst (λ (z : MachineView). Answers c.args.limits (list_of (world_of text) base c.args.params (listed text.table.now c.args.list.now))
    (g.W.Watch.told c.args.watch.now) (g.W.Watch.told c.run_rounds.new.watch) (Ok (last_rules z.rounds))) (sym c.new.ensures)
    (subst (λ p. Answers c.args.limits p (g.W.Watch.told c.args.watch.now) (g.W.Watch.told c.run_rounds.new.watch)
    (Ok (last_rules c.in_ok-rounds.rounds))) (list_plan_over text.world.now text.table.now c.rules-below.result.now
    (record { basic = c.new-basic.result; all = c.in_ok-all.all; limits = c.args.limits }) c.args.params c.args.list.now
    c.new-basic.ensures.items c.in_ok-all.ensures base c.rules-below.ensures) c.in_ok-rounds.ensures.answer))

pub returns-clause-only : goal.returns-clause-only
returns-clause-only g c =
    let text = c.checked.inside.text in
    let base = last_rules c.checked.inside.protocols.now.rounds in
    rw (← c.checked.view_is)
    (subst (λ (z : MachineView). IsOnlyOutcome c.args.limits
    (list_of (world_of text) base c.args.params (listed text.table.now c.args.list.now)) (Ok (last_rules z.rounds))) (sym c.new.ensures)
    (subst (λ p. IsOnlyOutcome c.args.limits p (Ok (last_rules c.in_ok-rounds.rounds))) (list_plan_over text.world.now text.table.now
    c.rules-below.result.now (record { basic = c.new-basic.result; all = c.in_ok-all.all; limits = c.args.limits }) c.args.params
    c.args.list.now c.new-basic.ensures.items c.in_ok-all.ensures base c.rules-below.ensures) c.in_ok-rounds.ensures.only))

pub returns-clause-rounds : goal.returns-clause-rounds
returns-clause-rounds g c =
    let text = c.checked.inside.text in
    let base = last_rules c.checked.inside.protocols.now.rounds in
    rw (← c.checked.view_is)
    (subst (λ (z : MachineView). AreRounds c.args.limits
    (list_of (world_of text) base c.args.params (listed text.table.now c.args.list.now)) z.rounds)
    (sym c.new.ensures)
    (subst (λ p. AreRounds c.args.limits p c.in_ok-rounds.rounds) (list_plan_over text.world.now text.table.now c.rules-below.result.now
    (record { basic = c.new-basic.result; all = c.in_ok-all.all; limits = c.args.limits }) c.args.params c.args.list.now
    c.new-basic.ensures.items c.in_ok-all.ensures base c.rules-below.ensures) c.in_ok-rounds.ensures.rounds))

pub returns-clause-machine : goal.returns-clause-machine
returns-clause-machine g c =
    let text = c.checked.inside.text in
    let base = last_rules c.checked.inside.protocols.now.rounds in
    rw (← c.checked.view_is)
    (subst (λ (z : MachineView). IsMachineOf (world_of text) (listed text.table.now c.args.list.now) z)
    (sym c.new.ensures)
    (list_machine (world_of text) (text_over text).closed c.args.limits
    base c.args.params (listed text.table.now c.args.list.now) c.checked.invariant
    (list_in_text text.table.now text.world.now.lexicon (text_over text).closed.ids c.args.params c.args.list.now
    (rw (← c.checked.view_is) at c.requires))
    (g.W.Watch.told c.args.watch.now) (g.W.Watch.told c.run_rounds.new.watch) c.in_ok-rounds.rounds
    (subst (λ p. Answers c.args.limits p (g.W.Watch.told c.args.watch.now) (g.W.Watch.told c.run_rounds.new.watch)
    (Ok (last_rules c.in_ok-rounds.rounds))) (list_plan_over text.world.now text.table.now c.rules-below.result.now
    (record { basic = c.new-basic.result; all = c.in_ok-all.all; limits = c.args.limits }) c.args.params c.args.list.now
    c.new-basic.ensures.items c.in_ok-all.ensures base c.rules-below.ensures) c.in_ok-rounds.ensures.answer)))

pub returns-in_err-rounds-clause-answer : goal.returns-in_err-rounds-clause-answer
returns-in_err-rounds-clause-answer g c =
    let text = c.checked.inside.text in
    let base = last_rules c.checked.inside.protocols.now.rounds in
    let p = err_from_is_err_and c.from_residual-in_err-rounds.result c.from_residual-in_err-rounds.ensures.1 in
    rw (← c.checked.view_is, p.1, p.2)
    (subst (λ p. Answers c.args.limits p (g.W.Watch.told c.args.watch.now) (g.W.Watch.told c.run_rounds.new.watch)
    (Err c.in_err-rounds.field-0.0))
    (list_plan_over text.world.now text.table.now c.rules-below.result.now
    (record { basic = c.new-basic.result; all = c.in_ok-all.all; limits = c.args.limits }) c.args.params c.args.list.now
    c.new-basic.ensures.items c.in_ok-all.ensures base c.rules-below.ensures) c.in_err-rounds.ensures.answer)

pub returns-in_err-rounds-clause-only : goal.returns-in_err-rounds-clause-only
returns-in_err-rounds-clause-only g c =
    let text = c.checked.inside.text in
    let base = last_rules c.checked.inside.protocols.now.rounds in
    let p = err_from_is_err_and c.from_residual-in_err-rounds.result c.from_residual-in_err-rounds.ensures.1 in
    rw (← c.checked.view_is, p.1, p.2)
    (subst (λ p. IsOnlyOutcome c.args.limits p (Err c.in_err-rounds.field-0.0)) (list_plan_over text.world.now text.table.now
    c.rules-below.result.now (record { basic = c.new-basic.result; all = c.in_ok-all.all; limits = c.args.limits }) c.args.params
    c.args.list.now c.new-basic.ensures.items c.in_ok-all.ensures base c.rules-below.ensures) c.in_err-rounds.ensures.only)
