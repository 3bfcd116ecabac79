use Rattle.std.proofs.Common.{◌∙◌, Err}
use Rattle.std.proofs.lemmas.Result.{err_from_is_err_and}
use Rattle.swreq_valid.specs.swreq_derive.Derivation.Source.{Written as WrittenList}
use Rattle.swreq_valid.specs.swreq_derive.Facts.{generic_params}
use Rattle.swreq_valid.specs.swreq_symbols.Meaning.{facts_of}
use Rattle.swreq_valid.specs.swreq_lowering.ByTable.{placed}
use Rattle.swreq_machine.specs.Machines.{built_rules, list_of}
use Rattle.swreq_valid.specs.Plans.{bare, listed}
use Rattle.swreq_valid.specs.Checked.{base_of}
use Rattle.swreq_valid.specs.Sides.{sides}
use Rattle.swreq_valid.proofs.Building.{only_built}
use Rattle.swreq_machine.proofs.Made.{machine_failed, machine_judged}
use Rattle.swreq_valid.proofs.Made.{written_known}
use Rattle.swreq_valid.proofs.Running.{nothing_told}
use Rattle.swreq_valid.specs.swreq_symbols.Texts.{world_of}
use Rattle.swreq_valid.proofs.swreq_symbols.OfTexts.{text_over}
use Rattle.swreq_machine.proofs.machine.Machine.build.Goals as goal

pub returns-in_err-list-clause-answer : goal.returns-in_err-list-clause-answer
returns-in_err-list-clause-answer g c =
    let text = c.args.checked.now.text in
    let p = err_from_is_err_and c.from_residual.result c.from_residual.ensures.1 in
    rw (p.1, p.2)
    (nothing_told c.args.limits (list_of (world_of text) (base_of c.args.checked.now) c.args.params
    (listed text.table.now (bare c.args.written.now))) (g.W.Watch.told c.args.watch.now))

pub core-requires : goal.core-requires
core-requires g c =
    let text = c.args.checked.now.text in
    written_known text.table.now text.world.now.lexicon c.args.written.now c.deref.result.now
    (c.deref.ensures.value ∙ c.in_ok-list.ensures) c.requires

pub returns-in_err-machine-clause-answer : goal.returns-in_err-machine-clause-answer
returns-in_err-machine-clause-answer g c =
    let text = c.args.checked.now.text in
    let p = err_from_is_err_and c.from_residual-in_err-machine.result c.from_residual-in_err-machine.ensures.1 in
    rw p.1
    (machine_failed text.world.now text.table.now (text_over text).closed (base_of c.args.checked.now) c.args.params
    c.args.written.now c.deref.result.now (c.deref.ensures.value ∙ c.in_ok-list.ensures) c.args.limits (g.W.Watch.told c.args.watch.now)
    (g.W.Watch.told c.core.new.watch) c.in_err-machine.field-0.0 p.0 p.2 c.in_err-machine.ensures.answer)

pub returns-in_err-machine-clause-only : goal.returns-in_err-machine-clause-only
returns-in_err-machine-clause-only g c =
    let text = c.args.checked.now.text in
    let p = err_from_is_err_and c.from_residual-in_err-machine.result c.from_residual-in_err-machine.ensures.1 in
    rw p.1
    (only_built c.args.limits (list_of (world_of text) (base_of c.args.checked.now) c.args.params
    (listed text.table.now (bare c.args.written.now))) (facts_of (world_of text))
    (sides (WrittenList (generic_params c.args.params) (listed text.table.now (bare c.args.written.now)))
    (placed text.table.now c.args.written.now)) (Err p.0) (g.W.Watch.told c.args.watch.now) (g.W.Watch.told c.core.new.watch)
    (machine_failed text.world.now text.table.now (text_over text).closed (base_of c.args.checked.now) c.args.params
    c.args.written.now c.deref.result.now (c.deref.ensures.value ∙ c.in_ok-list.ensures) c.args.limits (g.W.Watch.told c.args.watch.now)
    (g.W.Watch.told c.core.new.watch) c.in_err-machine.field-0.0 p.0 p.2 c.in_err-machine.ensures.answer))

pub returns-clause-answer : goal.returns-clause-answer
returns-clause-answer g c =
    let text = c.args.checked.now.text in
    machine_judged text.world.now text.table.now (text_over text).closed (base_of c.args.checked.now) c.args.params
    c.args.written.now c.deref.result.now (c.deref.ensures.value ∙ c.in_ok-list.ensures) c.args.limits (g.W.Watch.told c.args.watch.now)
    (g.W.Watch.told c.core.new.watch) c.in_ok-machine.machine c.judge_machine.result c.in_ok-machine.ensures.params
    c.in_ok-machine.ensures.answer c.in_ok-machine.ensures.machine c.judge_machine.ensures.judged

pub returns-clause-only : goal.returns-clause-only
returns-clause-only g c =
    let text = c.args.checked.now.text in
    only_built c.args.limits (list_of (world_of text) (base_of c.args.checked.now) c.args.params
    (listed text.table.now (bare c.args.written.now))) (facts_of (world_of text))
    (sides (WrittenList (generic_params c.args.params) (listed text.table.now (bare c.args.written.now))) (placed text.table.now
    c.args.written.now)) (built_rules c.judge_machine.result) (g.W.Watch.told c.args.watch.now) (g.W.Watch.told c.core.new.watch)
    (machine_judged text.world.now text.table.now (text_over text).closed (base_of c.args.checked.now) c.args.params
    c.args.written.now c.deref.result.now (c.deref.ensures.value ∙ c.in_ok-list.ensures) c.args.limits (g.W.Watch.told c.args.watch.now)
    (g.W.Watch.told c.core.new.watch) c.in_ok-machine.machine c.judge_machine.result c.in_ok-machine.ensures.params
    c.in_ok-machine.ensures.answer c.in_ok-machine.ensures.machine c.judge_machine.ensures.judged)
