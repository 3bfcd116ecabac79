use Rattle.std.proofs.Common.{subst, Ok, Err}
use Rattle.std.proofs.lemmas.Result.{err_from_is_err_and}
use Rattle.swreq_valid.specs.swreq_derive.Facts.{requirement_of}
use Rattle.swreq_valid.specs.swreq_rounds.Plan.{Plan}
use Rattle.swreq_valid.specs.Answers.{Answers}
use Rattle.swreq_valid.specs.Rounds.{last_rules}
use Rattle.swreq_valid.proofs.Building.{memory_at_end}
use Rattle.swreq_valid.proofs.Running.{nothing_told}
use Rattle.swreq_reqsig.specs.Families.{family_plan}
use Rattle.swreq_reqsig.proofs.Deriving.{follows_by, plan_by}
use Rattle.swreq_valid.proofs.swreq_symbols.OfTexts.{text_over}
use Rattle.swreq_valid.specs.swreq_symbols.Texts.{world_of}
use Rattle.swreq_reqsig.proofs.deciding.is_derivable_with.Goals as goal

pub returns-in_err-keep-clause-failed : goal.returns-in_err-keep-clause-failed
returns-in_err-keep-clause-failed g c =
    let t = c.args.text.now in
    let p = err_from_is_err_and c.from_residual.result c.from_residual.ensures.1 in
    rw (p.1, p.2) (nothing_told c.args.limits (family_plan (world_of t) c.args.flags.now) (g.W.Watch.told c.args.watch.now))

pub returns-in_err-protocols-clause-failed : goal.returns-in_err-protocols-clause-failed
returns-in_err-protocols-clause-failed g c =
    let t = c.args.text.now in
    let p = err_from_is_err_and c.from_residual-in_err-protocols.result c.from_residual-in_err-protocols.ensures.1 in
    rw (p.1, p.2)
    (subst (λ (z : Plan). Answers c.args.limits z (g.W.Watch.told c.args.watch.now) (g.W.Watch.told c.build_kept.new.watch)
    (Err c.in_err-protocols.field-0.0))
    (plan_by t.world.now t.table.now c.in_ok-keep.keep.lists c.args.flags.now c.in_ok-keep.ensures.lists) c.in_err-protocols.ensures.answer)

pub returns-clause-answer : goal.returns-clause-answer
returns-clause-answer g c =
    let t = c.args.text.now in
    follows_by t.world.now t.table.now (text_over t) c.in_ok-keep.keep.lists c.args.flags.now c.in_ok-keep.ensures.lists
    c.args.place.now.proto (requirement_of t.table.now c.args.place.now.requirement) _
    (c.in_ok-is_derivable.ensures c.in_ok-keep.keep.lists
    (record { rules = c.in_ok-protocols.ensures.rules; usable = c.in_ok-protocols.ensures.usable }))

pub returns-clause-told : goal.returns-clause-told
returns-clause-told g c =
    let t = c.args.text.now in
    let rules = last_rules c.in_ok-protocols.protocols.rounds in (
      rules,
      subst (λ (z : Plan). Answers c.args.limits z (g.W.Watch.told c.args.watch.now) (g.W.Watch.told c.build_kept.new.watch) (Ok rules))
          (plan_by t.world.now t.table.now c.in_ok-keep.keep.lists c.args.flags.now c.in_ok-keep.ensures.lists)
          c.in_ok-protocols.ensures.answer,
    )

pub returns-in_err-is_derivable-clause-failed : goal.returns-in_err-is_derivable-clause-failed
returns-in_err-is_derivable-clause-failed g c =
    let t = c.args.text.now in
    let rules = last_rules c.in_ok-protocols.protocols.rounds in
    let old = g.W.Watch.told c.args.watch.now in
    let new = g.W.Watch.told c.build_kept.new.watch in
    let p = err_from_is_err_and c.from_residual-in_err-is_derivable.result c.from_residual-in_err-is_derivable.ensures.1 in
    rw (p.1, p.2)
    (memory_at_end c.args.limits (family_plan (world_of t) c.args.flags.now) rules old new
    (subst (λ (z : Plan). Answers c.args.limits z old new (Ok rules))
    (plan_by t.world.now t.table.now c.in_ok-keep.keep.lists c.args.flags.now c.in_ok-keep.ensures.lists) c.in_ok-protocols.ensures.answer))
