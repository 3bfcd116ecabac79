use Rattle.std.proofs.Common.{◌∙◌}
use Rattle.swreq_rounds.specs.Plan.{given}
use Rattle.swreq_valid.specs.Flags.{chosen}
use Rattle.swreq_valid.specs.Plans.{items_of, plan_of}
use Rattle.swreq_valid.specs.Rounds.{first_rules}
use Rattle.swreq_valid.proofs.Running.{same_answer, same_told}
use Rattle.swreq_valid.proofs.completing.complete.Goals as goal

pub returns-clause-answer : goal.returns-clause-answer
returns-clause-answer g c =
    same_answer c.args.start.now.limits (first_rules c.args.below) c.in_ok-first.first c.deref.result.now
    (given (plan_of c.args.text.now.world.now c.args.text.now.table.now (first_rules c.args.below) c.args.start.now)
    (chosen (items_of c.args.text.now.table.now c.args.start.now.all.items) c.args.used.now))
    c.extend.result c.in_ok-first.ensures
    (c.deref.ensures.value ∙ c.in_ok-equations.ensures (first_rules c.args.below)) c.extend.ensures.answer

pub returns-clause-told : goal.returns-clause-told
returns-clause-told g c =
    same_told c.args.start.now.limits (first_rules c.args.below) c.in_ok-first.first c.deref.result.now
    (given (plan_of c.args.text.now.world.now c.args.text.now.table.now (first_rules c.args.below) c.args.start.now)
    (chosen (items_of c.args.text.now.table.now c.args.start.now.all.items) c.args.used.now))
    (g.W.Watch.told c.args.watch.now) (g.W.Watch.told c.extend.new.watch)
    c.extend.result c.in_ok-first.ensures
    (c.deref.ensures.value ∙ c.in_ok-equations.ensures (first_rules c.args.below)) c.extend.ensures.told
