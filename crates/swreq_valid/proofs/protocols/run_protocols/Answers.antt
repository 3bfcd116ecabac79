use Rattle.std.proofs.Common.{[], refl, subst, IfOk}
use Rattle.std.proofs.lemmas.Result.{err_from_is_err_and}
use Rattle.swreq_valid.specs.Answers.{Answers, IsOnlyOutcome}
use Rattle.swreq_valid.specs.Protocols.{protocols_of}
use Rattle.swreq_valid.specs.Rounds.{AreRounds, rules_of}
use Rattle.swreq_valid.proofs.OfProtocols.{protocols_plan_is, protocols_rules, protocols_wanted_all}
use Rattle.swreq_valid.proofs.Running.{nothing_told}
use Rattle.swreq_symbols.specs.Texts.{world_of}
use Rattle.swreq_symbols.proofs.OfTexts.{ids_over, text_over}
use Rattle.swreq_valid.proofs.protocols.run_protocols.Goals as goal

pub basic-requires : goal.basic-requires
basic-requires g c = ids_over c.args.text.now

pub requirements-requires : goal.requirements-requires
requirements-requires g c = ids_over c.args.text.now

pub run_rounds-requires : goal.run_rounds-requires
run_rounds-requires g c =
    protocols_wanted_all c.args.text.now.world.now c.args.text.now.table.now
    (text_over c.args.text.now) c.in_ok-all.all.items c.in_ok-all.ensures

pub returns-clause-answer : goal.returns-clause-answer
returns-clause-answer g c = subst (λ p. Answers c.args.limits p (g.W.Watch.told c.args.watch.now)
    (g.W.Watch.told c.run_rounds.new.watch) (rules_of c.run_rounds.result))
    (protocols_plan_is c.args.text.now.world.now c.args.text.now.table.now []
    (record { basic = c.in_ok-basic.basic; all = c.in_ok-all.all; limits = c.args.limits }) refl c.in_ok-basic.ensures c.in_ok-all.ensures)
    c.run_rounds.ensures.answer

pub returns-clause-only : goal.returns-clause-only
returns-clause-only g c = subst (λ p. IsOnlyOutcome c.args.limits p (rules_of c.run_rounds.result))
    (protocols_plan_is c.args.text.now.world.now
    c.args.text.now.table.now [] (record { basic = c.in_ok-basic.basic; all = c.in_ok-all.all; limits = c.args.limits }) refl
    c.in_ok-basic.ensures
    c.in_ok-all.ensures) c.run_rounds.ensures.only

pub returns-clause-rounds : goal.returns-clause-rounds
returns-clause-rounds g c = subst (λ p. IfOk c.run_rounds.result (AreRounds c.args.limits p)) (protocols_plan_is c.args.text.now.world.now
    c.args.text.now.table.now [] (record { basic = c.in_ok-basic.basic; all = c.in_ok-all.all; limits = c.args.limits }) refl
    c.in_ok-basic.ensures
    c.in_ok-all.ensures) c.run_rounds.ensures.rounds

pub returns-clause-rules : goal.returns-clause-rules
returns-clause-rules g c =
    protocols_rules (world_of c.args.text.now) (text_over c.args.text.now).closed c.args.limits (g.W.Watch.told c.args.watch.now)
    (g.W.Watch.told c.run_rounds.new.watch) c.run_rounds.result
    (subst (λ p. Answers c.args.limits p (g.W.Watch.told c.args.watch.now) (g.W.Watch.told c.run_rounds.new.watch)
    (rules_of c.run_rounds.result))
    (protocols_plan_is c.args.text.now.world.now c.args.text.now.table.now []
    (record { basic = c.in_ok-basic.basic; all = c.in_ok-all.all; limits = c.args.limits }) refl c.in_ok-basic.ensures c.in_ok-all.ensures)
    c.run_rounds.ensures.answer)

pub returns-in_err-basic-clause-answer : goal.returns-in_err-basic-clause-answer
returns-in_err-basic-clause-answer g c =
    let p = err_from_is_err_and c.from_residual.result c.from_residual.ensures.1 in
    rw (p.1, p.2)
    (nothing_told c.args.limits (protocols_of (world_of c.args.text.now)) (g.W.Watch.told c.args.watch.now))

pub returns-in_err-all-clause-answer : goal.returns-in_err-all-clause-answer
returns-in_err-all-clause-answer g c =
    let p = err_from_is_err_and c.from_residual-in_err-all.result c.from_residual-in_err-all.ensures.1 in
    rw (p.1, p.2)
    (nothing_told c.args.limits (protocols_of (world_of c.args.text.now)) (g.W.Watch.told c.args.watch.now))
