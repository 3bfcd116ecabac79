use Rattle.std.proofs.lemmas.Result.{err_from_is_err_and}
use Rattle.swreq_valid.specs.Keeping.{kept_plan}
use Rattle.swreq_valid.specs.Rounds.{rules_of}
use Rattle.swreq_valid.proofs.OfKept.{kept_all_wanted, kept_answers, kept_only, kept_rounds, kept_rules}
use Rattle.swreq_valid.proofs.Running.{nothing_told}
use Rattle.swreq_symbols.specs.Texts.{world_of}
use Rattle.swreq_symbols.proofs.OfTexts.{text_over}
use Rattle.swreq_valid.proofs.kept.run_kept.Goals as goal

pub run_rounds-requires : goal.run_rounds-requires
run_rounds-requires g c =
    kept_all_wanted c.args.text.now.world.now c.args.text.now.table.now c.args.keep.now.lists (text_over c.args.text.now) c.requires.keep
    c.in_ok-all.all.items c.in_ok-all.ensures

pub returns-clause-answer : goal.returns-clause-answer
returns-clause-answer g c =
    kept_answers c.args.text.now.world.now c.args.text.now.table.now c.args.keep.now.lists (text_over c.args.text.now) c.requires.keep
    (record { basic = c.in_ok-basic.basic; all = c.in_ok-all.all; limits = c.args.limits }) c.in_ok-basic.ensures c.in_ok-all.ensures
    (g.W.Watch.told c.args.watch.now) (g.W.Watch.told c.run_rounds.new.watch) (rules_of c.run_rounds.result) c.run_rounds.ensures.answer

pub returns-clause-only : goal.returns-clause-only
returns-clause-only g c =
    kept_only c.args.text.now.world.now c.args.text.now.table.now c.args.keep.now.lists (text_over c.args.text.now) c.requires.keep
    (record { basic = c.in_ok-basic.basic; all = c.in_ok-all.all; limits = c.args.limits }) c.in_ok-basic.ensures c.in_ok-all.ensures
    (rules_of c.run_rounds.result) c.run_rounds.ensures.only

pub returns-clause-rounds : goal.returns-clause-rounds
returns-clause-rounds g c =
    kept_rounds c.args.text.now.world.now c.args.text.now.table.now c.args.keep.now.lists (text_over c.args.text.now) c.requires.keep
    (record { basic = c.in_ok-basic.basic; all = c.in_ok-all.all; limits = c.args.limits }) c.in_ok-basic.ensures c.in_ok-all.ensures
    c.run_rounds.result c.run_rounds.ensures.rounds

pub returns-clause-rules : goal.returns-clause-rules
returns-clause-rules g c =
    kept_rules (world_of c.args.text.now) (text_over c.args.text.now).closed c.args.keep.now.lists c.args.limits
    (g.W.Watch.told c.args.watch.now) (g.W.Watch.told c.run_rounds.new.watch) c.run_rounds.result
    (kept_answers c.args.text.now.world.now c.args.text.now.table.now c.args.keep.now.lists (text_over c.args.text.now) c.requires.keep
    (record { basic = c.in_ok-basic.basic; all = c.in_ok-all.all; limits = c.args.limits }) c.in_ok-basic.ensures c.in_ok-all.ensures
    (g.W.Watch.told c.args.watch.now) (g.W.Watch.told c.run_rounds.new.watch) (rules_of c.run_rounds.result) c.run_rounds.ensures.answer)

pub returns-in_err-basic-clause-answer : goal.returns-in_err-basic-clause-answer
returns-in_err-basic-clause-answer g c =
    let p = err_from_is_err_and c.from_residual.result c.from_residual.ensures.1 in
    rw (p.1, p.2)
    (nothing_told c.args.limits (kept_plan (world_of c.args.text.now) c.args.keep.now.lists)
    (g.W.Watch.told c.args.watch.now))

pub returns-in_err-all-clause-answer : goal.returns-in_err-all-clause-answer
returns-in_err-all-clause-answer g c =
    let p = err_from_is_err_and c.from_residual-in_err-all.result c.from_residual-in_err-all.ensures.1 in
    rw (p.1, p.2)
    (nothing_told c.args.limits (kept_plan (world_of c.args.text.now) c.args.keep.now.lists)
    (g.W.Watch.told c.args.watch.now))
