use Rattle.std.proofs.Common.{◌∙◌, sym, subst, arith, []}
use Rattle.swreq_rounds.specs.Plan.{AreShown}
use Rattle.swreq_valid.specs.Flags.{Tells}
use Rattle.swreq_valid.specs.Plans.{items_of, plan_of}
use Rattle.swreq_valid.proofs.Flagged.{all_set_tell}
use Rattle.swreq_valid.proofs.Planning.{items_length}
use Rattle.swreq_valid.proofs.joining.next_used.Goals as goal

pub returns-then-are_set : goal.returns-then-are_set
returns-then-are_set c =
    all_set_tell (items_of c.args.text.now.table.now c.args.start.now.all.items) c.args.used.now (sym c.are_set.ensures ∙ c.if-are_set.true)
    (let a = c.requires.flags in let o = c.args.start.now.all.ok in
    let q = items_length c.args.text.now.table.now c.args.start.now.all.items in omega (arith, a, o, q))
    c.requires.shown

pub returns-then-are_same : goal.returns-then-are_same
returns-then-are_same c =
    subst (Tells (AreShown (plan_of c.args.text.now.world.now c.args.text.now.table.now [] c.args.start.now) c.args.rules.now)
    (items_of c.args.text.now.table.now c.args.start.now.all.items))
    (sym c.deref.ensures.value ∙ c.are_same.ensures.0 c.if-are_same.true) (c.in_ok-flags.ensures [])

pub returns-else-are_same : goal.returns-else-are_same
returns-else-are_same c = (
  c.in_ok-flags.ensures [],
  λ h. let e = c.are_same.ensures.1 (c.deref.ensures.value ∙ h) in let f = c.if-are_same.false in cc,
)
