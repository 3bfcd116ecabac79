use Rattle.std.proofs.Common.{◌∙◌, arith, Ok, Err}
use Rattle.swreq_complete.specs.declared.limit.Failed.TheVariants.{Limit}
use Rattle.swreq_rounds.specs.Plan.{given}
use Rattle.swreq_rounds.proofs.OneOutcome.{closed_among}
use Rattle.swreq_valid.specs.Flags.{chosen}
use Rattle.swreq_valid.specs.Plans.{plan_of}
use Rattle.swreq_valid.specs.Rounds.{first_rules}
use Rattle.swreq_valid.proofs.Turned.{flags_long, joined_result, same_borne}
use Rattle.swreq_valid.proofs.joining.joined.Goals as goal

pub given_by-requires-clause-flags : goal.given_by-requires-clause-flags
given_by-requires-clause-flags c =
    let a = flags_long c.args.text.now.table.now c.args.start.now.all.items c.args.used.now c.requires.flags in
    let o = c.args.start.now.all.ok in
    omega (arith, a, o)

pub joined_by-requires-clause-flags : goal.joined_by-requires-clause-flags
joined_by-requires-clause-flags c =
    let a = flags_long c.args.text.now.table.now c.args.start.now.all.items c.args.used.now c.requires.flags in
    let o = c.args.start.now.all.ok in
    omega (arith, a, o)

pub returns-in-Ok : goal.returns-in-Ok
returns-in-Ok c =
    let limits = c.args.start.now.limits in
    let base = first_rules c.args.below in
    let plan = plan_of c.args.text.now.world.now c.args.text.now.table.now base c.args.start.now in
    let used = c.args.used.now in
    let bears = same_borne limits base c.in_ok-first.first c.deref.result.now (given plan (chosen plan.all used))
    (Ok c.in-Ok.rules) c.in_ok-first.ensures
    (c.deref.ensures.value ∙ c.in_ok-equations.ensures base) c.in-Ok.ensures.answer in
    joined_result limits plan used c.requires.flags c.in-Ok.rules bears c.joined_by.result (c.joined_by.ensures base)

pub returns-in-Err-Limit : goal.returns-in-Err-Limit
returns-in-Err-Limit c =
    let limits = c.args.start.now.limits in
    let base = first_rules c.args.below in
    let plan = plan_of c.args.text.now.world.now c.args.text.now.table.now base c.args.start.now in
    let used = chosen plan.all c.args.used.now in
    closed_among limits plan used c.in-Err-Limit.field-0-0 c.in-Err-Limit.field-0-1
    (same_borne limits base c.in_ok-first.first c.deref.result.now (given plan used)
    (Err (Limit c.in-Err-Limit.field-0-0 c.in-Err-Limit.field-0-1))
    c.in_ok-first.ensures (c.deref.ensures.value ∙ c.in_ok-equations.ensures base)
    (rw c.in-Err-Limit.field-0-is at c.in-Err-Limit.ensures.answer))
