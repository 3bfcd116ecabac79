use Rattle.std.proofs.Common.{refl, subst, Err}
use Rattle.swreq_valid.specs.Answers.{Answers}
use Rattle.swreq_valid.specs.Keeping.{kept_plan}
use Rattle.swreq_valid.specs.Rounds.{rules_of}
use Rattle.swreq_valid.proofs.Running.{only}
use Rattle.swreq_symbols.specs.Texts.{world_of}
use Rattle.swreq_valid.proofs.kept.complete_kept.Goals as goal

pub returns-in-Some-clause-answer : goal.returns-in-Some-clause-answer
returns-in-Some-clause-answer g c =
    c.in-Some.ensures (kept_plan (world_of c.args.text.now) c.args.keep.now.lists) refl refl

pub returns-in-Some-clause-only : goal.returns-in-Some-clause-only
returns-in-Some-clause-only g c =
    let plan = kept_plan (world_of c.args.text.now) c.args.keep.now.lists in
    only c.args.limits plan (g.W.Watch.told c.args.watch.now) (g.W.Watch.told c.limit_of_basic.new.watch) (Err c.in-Some.failed)
    (c.in-Some.ensures plan refl refl)

pub returns-in-None-clause-answer : goal.returns-in-None-clause-answer
returns-in-None-clause-answer g c =
    subst (λ z. Answers c.args.limits (kept_plan (world_of c.args.text.now) c.args.keep.now.lists) z
    (g.W.Watch.told c.run_kept.new.watch) (rules_of c.run_kept.result))
    c.in-None.ensures c.run_kept.ensures.answer
