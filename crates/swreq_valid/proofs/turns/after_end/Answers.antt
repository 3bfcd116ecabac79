use Rattle.std.proofs.Common.{◌∙◌, ◌++◌, ◌∷◌, [], ap, arith, refl, subst, sym, Bool, Contains, List, length}
use Rattle.swreq_rounds.specs.Plan.{AreShown}
use Rattle.swreq_valid.specs.Flags.{Tells, chosen}
use Rattle.swreq_valid.specs.Plans.{items_of, plan_of}
use Rattle.swreq_valid.proofs.Flagged.{tells_length}
use Rattle.swreq_valid.proofs.Planning.{items_length}
use Rattle.swreq_valid.proofs.Turned.{goes_after, lasts_here}
use Rattle.swreq_valid.proofs.turns.after_end.Goals as goal

pub next_used-requires-clause-flags : goal.next_used-requires-clause-flags
next_used-requires-clause-flags c =
    let terms = c.args.text.now.table.now in
    let all = items_of terms c.args.start.now.all.items in
    let used = c.args.state.used.items in
    let a = tells_length (Contains (chosen all used)) all used c.requires.flags in
    let e = ap length c.deref.ensures.value in
    let o = c.args.start.now.all.ok in
    let q = items_length terms c.args.start.now.all.items in
    omega (arith, a, e, o, q)

pub next_used-requires-clause-shown : goal.next_used-requires-clause-shown
next_used-requires-clause-shown c x k =
    c.requires.shown x
    (subst (λ (u : List Bool). Contains (chosen (items_of c.args.text.now.table.now c.args.start.now.all.items) u) x)
    c.deref.ensures.value k)

pub returns-in-None : goal.returns-in-None
returns-in-None c base due end =
    let plan = plan_of c.args.text.now.world.now c.args.text.now.table.now base c.args.start.now in
    lasts_here c.args.start.now.limits plan c.args.state c.requires.flags c.args.rules due end c.requires.shown
    (subst (Tells (AreShown plan c.args.rules) plan.all) c.deref.ensures.value (rw c.in-None.is at c.in_ok-next.ensures))
    c.new.result c.new.ensures

pub returns : goal.returns
returns c base due end =
    let plan = plan_of c.args.text.now.world.now c.args.text.now.table.now base c.args.start.now in
    let next = rw c.in-Some.is at c.in_ok-next.ensures in
    goes_after c.args.start.now.limits plan c.args.state c.requires.flags c.args.rules due end c.requires.shown _ next.0
    (λ e. next.1 (e ∙ sym c.deref.ensures.value)) refl
    (c.in_ok-before-in-Some.ensures ∙ ap (λ r. c.args.state.before.items ++ r ∷ []) c.ended.ensures)
